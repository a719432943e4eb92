-- The stakes of the nodes behind the loop of which the test holds.
use Prim.Native.Nat.{◌≤◌}
use Rattle.record.specs.Layout.{ledger_of}
use Rattle.pool.specs.Weighing.{Tells}
use Rattle.pool.proofs.HeldLaws.{SoFar}
use Rattle.pool.proofs.weigh_where.Given as goal

abbrev pub invariant-loop-n : goal.invariant-loop-n
invariant-loop-n g l =
    (l.n ≤ (ledger_of l.rec).count) × SoFar (ledger_of l.rec) (Tells (goal.F-post g) l.holds) l.n l.sum
