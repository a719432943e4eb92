-- The operation's contract, in the paper's numbers.
use Rattle.calls.proofs.Life.{take_met}
use Rattle.host.proofs.plain_take.Goals as goal

pub returns : goal.returns
returns c = take_met _ _ _ _ _ _ c.take.ensures
