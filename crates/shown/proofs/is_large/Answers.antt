-- The count is held to that of the largest small ring.
use mathlib.Core.Path.{ap}
use lib.Dec.{ltb}
use Rattle.rulebook.specs.Weights.{is_large}
use Rattle.shown.proofs.is_large.Goals as goal

pub returns : goal.returns
unfolding is_large
returns c = ap (ltb 64) c.nodes_of.ensures
