-- The loop over the numbers: those before the present one are put.
use mathlib.Core.Path.{refl}
use native.Mathlib.Omega.{arith}
use Rattle.lines.proofs.Composed.{first_vote, next_vote, all_votes}
use Rattle.lines.proofs.Page.numbers.Goals as goal

pub loop-n-init : goal.loop-n-init
loop-n-init c = first_vote c.args.numbers.now

pub loop-n-preserved : goal.loop-n-preserved
loop-n-preserved c = next_vote c.args.numbers.now _ _ refl c.loop-n.invariant c.spaced.ensures

pub returns : goal.returns
returns c = all_votes c.args.numbers.now c.loop-n.n-index (omega arith) c.loop-n.invariant
