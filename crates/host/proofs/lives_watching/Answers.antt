-- A watcher's start that answers 0 begins a life.
use Rattle.calls.proofs.Life.{watch_begins}
use Rattle.host.proofs.lives_watching.Goals as goal

pub returns : goal.returns
returns c = watch_begins _ _ _ _ _ c.qr_watch.ensures
