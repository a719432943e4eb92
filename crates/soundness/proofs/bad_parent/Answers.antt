-- The test as it is written, with genesis read from the record.
use Rattle.rulebook.specs.Inputs.{bad_parent}
use Rattle.soundness.proofs.bad_parent.Goals as goal

pub returns : goal.returns
unfolding bad_parent
returns c = simp c.genesis-first.ensures
