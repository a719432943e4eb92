-- The four places for blocks.
use mathlib.Core.Path.{refl}
use Rattle.parents.specs.Naming.{names_some}
use Rattle.parents.proofs.names_some.Goals as goal

pub returns : goal.returns
unfolding names_some
returns c = refl
