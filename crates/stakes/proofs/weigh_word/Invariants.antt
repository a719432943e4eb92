-- `weigh_word` answers `weighed` of its 64 places: it steps from set bit to set bit. Assumes nothing.
use Rattle.stakes.proofs.Stepping.{Stepped}
use Rattle.stakes.proofs.weigh_word.Given as goal

abbrev pub invariant-loop-left : goal.invariant-loop-left
invariant-loop-left l =
    Stepped l.stakes l.word l.signers l.weight l.left

abbrev pub decreases-loop-left : goal.decreases-loop-left
decreases-loop-left l =
    l.left
