-- A start that is refused is a call of every life on the words.
use Rattle.calls.proofs.Life.{refused_stays}
use Rattle.host.proofs.lives_through.Goals as goal

pub returns : goal.returns
returns c = refused_stays _ _ _ _ _ _ c.qr_start.ensures
