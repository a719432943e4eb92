-- The mark, the count, and the stakes copied behind them.
use Rattle.pieces.specs.State.{with_table}
use Rattle.pieces.proofs.keep_table.Goals as goal

pub returns : goal.returns
unfolding with_table
returns c = c.copy_first.ensures
