-- The test as it is written.
use mathlib.Core.Path.{refl}
use Rattle.rulebook.specs.WellFormed.{in_order}
use Rattle.audit.proofs.in_order.Goals as goal

pub returns : goal.returns
unfolding in_order
returns c = refl
