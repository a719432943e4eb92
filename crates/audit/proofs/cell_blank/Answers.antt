-- The tests joined as they are written.
use mathlib.Core.Path.{refl}
use Rattle.rulebook.specs.WellFormed.{cell_blank}
use Rattle.audit.proofs.cell_blank.Goals as goal

pub returns : goal.returns
unfolding cell_blank
returns c = refl
