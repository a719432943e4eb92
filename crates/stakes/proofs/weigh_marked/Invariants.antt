-- `weigh_marked` answers `weighed`: word by word, each cut off at the table's end and weighed over the stakes from its first node on. Assumes nothing.
use Rattle.std.proofs.Common.{◌≡◌, ◌+◌, ◌/◌, ◌%◌, min, length}
use Rattle.rule_laws.proofs.WordLaws.{Words}
use Rattle.stakes.specs.Masks.{Signed}
use Rattle.stakes.proofs.Stepping.{Summed}
use Rattle.stakes.proofs.weigh_marked.Given as goal

abbrev pub invariant-loop-i : goal.invariant-loop-i
invariant-loop-i l =
    (l.count ≡ length l.stakes) × (l.i-end ≡ length l.stakes / 64 + min 1 (length l.stakes % 64)) × (s : Signed l.stakes l.a l.b) × (x : Words l.a) × (y : Words l.b) × Summed l.stakes l.a l.b s.lent x y l.rest l.signers l.weight l.i
