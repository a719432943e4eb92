-- The signers are those that are marked where not the rest is.
use Rattle.stakes.specs.Masks.{marked}
use Rattle.stakes.proofs.weigh.Goals as goal

pub returns : goal.returns
unfolding marked
returns c = c.weigh_marked.ensures
