-- The loop sums the stakes of those who count, one node a turn.
use mathlib.Core.Path.{◌≡◌}
use Prim.Native.Nat.{◌-◌, ◌≤◌}
use Rattle.record.specs.Layout.{ledger_of}
use Rattle.looks.proofs.Beside.{beside_to}
use Rattle.looks.proofs.named_beside.Given as goal

abbrev pub invariant-loop-n : goal.invariant-loop-n
invariant-loop-n l =
    (l.n ≤ l.nodes) × (l.sum ≡ beside_to (ledger_of l.rec) l.s.0 l.n)

abbrev pub decreases-loop-n : goal.decreases-loop-n
decreases-loop-n l =
    l.nodes - l.n
