-- As many as the stakes, up to the limit.
use mathlib.Core.Path.{sym}
use native.Mathlib.Omega.{arith}
use Rattle.rule_laws.proofs.PlaceLaws.{placed_each, placed_most}
use Rattle.record.proofs.places_for.Goals as goal

pub returns-then-count-gt-MOST_NODES : goal.returns-then-count-gt-MOST_NODES
returns-then-count-gt-MOST_NODES c = sym (placed_most c.args.count (omega arith))

pub returns : goal.returns
returns c = sym (placed_each c.args.count (omega arith))
