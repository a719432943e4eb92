-- A start that answers 0 begins a life.
use Rattle.calls.proofs.Life.{life_begins}
use Rattle.host.proofs.lives_from.Goals as goal

pub returns : goal.returns
returns c = life_begins _ _ _ _ _ _ c.qr_start.ensures
