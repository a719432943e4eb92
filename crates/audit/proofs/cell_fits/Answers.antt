-- The tests joined as they are written.
use Rattle.rulebook.specs.WellFormed.{cell_fits}
use Rattle.audit.specs.Summing.{fallbacks_fit}
use Rattle.audit.proofs.cell_fits.Goals as goal

pub returns : goal.returns
unfolding cell_fits fallbacks_fit
returns c = simp c.fallbacks_fit-fallbacks.ensures
