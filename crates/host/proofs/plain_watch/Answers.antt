-- The operation's contract, in the paper's numbers.
use Rattle.calls.proofs.Life.{watch_met}
use Rattle.host.proofs.plain_watch.Goals as goal

pub returns : goal.returns
returns c = watch_met _ _ _ _ _ c.watch.ensures
