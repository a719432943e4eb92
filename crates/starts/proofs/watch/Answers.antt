-- The number after the last, which is not odd.
use Rattle.starts.proofs.Starts.{begun_watch}
use Rattle.starts.proofs.watch.Goals as goal

pub returns : goal.returns
returns c = let a = c.args in begun_watch a.rec.now a.stakes.now a.genesis _ _ c.begin.ensures
