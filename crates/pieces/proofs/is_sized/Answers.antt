-- Both lengths.
use Rattle.pieces.specs.State.{is_sized}
use mathlib.Core.Path.{refl}
use Rattle.pieces.proofs.is_sized.Goals as goal

pub returns : goal.returns
unfolding is_sized
returns c = refl
