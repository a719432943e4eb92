-- Both ways.
use mathlib.Core.Path.{sym}
use Rattle.rule_laws.proofs.ToolLaws.{part_on, part_off}
use Rattle.shown_votes.proofs.weight_if.Goals as goal

pub returns-then-there : goal.returns-then-there
returns-then-there c = sym (part_on _ _ c.if-there.true)

pub returns-else-there : goal.returns-else-there
returns-else-there c = sym (part_off _ _ c.if-there.false)
