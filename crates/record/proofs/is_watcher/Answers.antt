-- The own number is the count.
use lib.Dec.{eqb}
use Rattle.rulebook.specs.Ledger.{is_watcher}
use Rattle.record.proofs.is_watcher.Goals as goal

pub returns : goal.returns
unfolding is_watcher
returns c = λ i. eqb (c.own.ensures i) (c.count.ensures i)
