-- The tests joined as they are written.
use mathlib.Core.Path.{refl}
use Prim.Native.Nat.{◌-◌}
use Rattle.rulebook.specs.WellFormed.{cell_blank}
use Rattle.shown.proofs.is_blank.Goals as goal

pub returns : goal.returns
unfolding cell_blank
returns c = refl
