-- The loop goes up as long as slots hold kind 4.
use Prim.Native.Nat.{◌-◌, ◌≤◌}
use Rattle.record.specs.Layout.{ledger_of}
use Rattle.parents.proofs.ReadyLaws.{Skipped}
use Rattle.parents.proofs.skipped_between.Given as goal

abbrev pub invariant-loop-q : goal.invariant-loop-q
invariant-loop-q l =
    (l.from ≤ l.q) × (l.q ≤ l.q-end) × Skipped (ledger_of l.rec) l.from l.q

abbrev pub decreases-loop-q : goal.decreases-loop-q
decreases-loop-q l =
    l.q-end - l.q
