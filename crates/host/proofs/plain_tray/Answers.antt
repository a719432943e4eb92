-- The operation's contract, in the paper's numbers.
use Rattle.calls.proofs.Life.{tray_met}
use Rattle.host.proofs.plain_tray.Goals as goal

pub returns : goal.returns
returns c = tray_met _ _ _ _ _ _ _ _ c.tray.ensures
