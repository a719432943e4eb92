-- The operation's contract, in the paper's numbers.
use Rattle.calls.proofs.Life.{start_met}
use Rattle.host.proofs.plain_start.Goals as goal

pub returns : goal.returns
returns c = start_met _ _ _ _ _ _ c.start.ensures
