-- `make_table` answers `made_of`: the stakes are summed one by one, and what the sums tell is told at the end. Assumes nothing.
use Rattle.stakes.proofs.Loops.{Summing}
use Rattle.stakes.proofs.make_table.Given as goal

abbrev pub invariant-loop-stake : goal.invariant-loop-stake
invariant-loop-stake l = Summing l.stakes l.total l.all l.stake-index
