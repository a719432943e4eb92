use Rattle.help.proofs.Laws.{too_short, long_enough}
use Rattle.help.proofs.named.Goals as goal

pub returns-then-rest-n : goal.returns-then-rest-n
returns-then-rest-n c = too_short _ _ c.if-rest-n.true

pub returns : goal.returns
returns c = long_enough _ _ _ c.if-rest-n.false c.same-there.ensures
