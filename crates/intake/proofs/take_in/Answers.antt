-- Each input is stored in its own place.
use Rattle.rulebook.specs.Inputs.{intake}
use Rattle.intake.proofs.Taken.{vote_storing, vote_taken, block_placed, block_taken, timeout_casting, look_taken}
use Rattle.intake.proofs.take_in.Goals as goal

pub store_vote-requires : goal.store_vote-requires
store_vote-requires c = vote_storing _ (rw c.in-Vote.is at c.requires)

pub keep_block-requires : goal.keep_block-requires
keep_block-requires c = block_placed _ _ (rw c.in-Block.is at c.requires)

pub time_out-requires : goal.time_out-requires
time_out-requires c = timeout_casting _ (rw c.in-Timeout.is at c.requires)

pub returns-in-Vote : goal.returns-in-Vote
returns-in-Vote c =
    rw c.in-Vote.is (vote_taken _ (rw c.in-Vote.is at c.requires) _ c.store_vote.auto.rec c.store_vote.ensures)

pub returns-in-Block : goal.returns-in-Block
returns-in-Block c =
    rw c.in-Block.is (block_taken _ _ (rw c.in-Block.is at c.requires) _ c.keep_block.auto.rec c.keep_block.ensures)

pub returns-in-Timeout : goal.returns-in-Timeout
unfolding intake
returns-in-Timeout c = rw c.in-Timeout.is c.time_out.ensures

pub returns-in-Look : goal.returns-in-Look
returns-in-Look c = rw c.in-Look.is (look_taken (rw c.in-Look.is at c.requires))
