-- Rule A's first test: both parts as the record has them.
use mathlib.Core.Bool.{not, ◌&&◌}
use Rattle.rules.proofs.may_arm.Goals as goal

pub returns : goal.returns
returns c = λ i. c.is_first.ensures i && not (c.is_armed.ensures i)
