-- The slot sought from t on is the one that is sought.
use mathlib.Core.Path.{◌≡◌}
use Prim.Native.Nat.{◌-◌, ◌≤◌}
use Rattle.shown.specs.Shown.{ledger_in, final_child}
use Rattle.shown.proofs.Laws.{child_from}
use Rattle.shown.proofs.final_child.Given as goal

abbrev pub invariant-loop-t : goal.invariant-loop-t
invariant-loop-t l =
    (l.t ≤ 17) × (child_from (ledger_in l.rec) l.s.0 l.b l.t ≡ final_child (ledger_in l.rec) l.s.0 l.b)

abbrev pub decreases-loop-t : goal.decreases-loop-t
decreases-loop-t l =
    17 - l.t
