-- Three comparisons.
use mathlib.Core.Path.{refl}
use Rattle.rulebook.specs.WellFormed.{block_blank}
use Rattle.soundness.proofs.block_blank.Goals as goal

pub returns : goal.returns
unfolding block_blank
returns c = refl
