-- The loop has joined the tests of the places behind it.
use mathlib.Core.Path.{◌≡◌}
use Prim.Native.Nat.{◌-◌, ◌≤◌}
use Rattle.rulebook.specs.Ledger.{blocks_at}
use Rattle.record.specs.Layout.{ledger_of}
use Rattle.record.specs.BlockPlaces.{behind}
use Rattle.soundness.proofs.is_behind.Given as goal

abbrev pub invariant-loop-j : goal.invariant-loop-j
invariant-loop-j l =
    (l.j ≤ l.n) × (l.ok ≡ behind (blocks_at (ledger_of l.rec) l.s.0) l.j l.number)

abbrev pub decreases-loop-j : goal.decreases-loop-j
decreases-loop-j l =
    l.n - l.j
