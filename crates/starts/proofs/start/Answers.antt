-- The own number is odd past the table.
use Rattle.starts.proofs.Starts.{begun_start}
use Rattle.starts.proofs.start.Goals as goal

pub returns : goal.returns
returns c = let a = c.args in begun_start a.rec.now a.stakes.now a.own.0 a.genesis _ _ c.begin.ensures
