-- The sum over the nodes passed, four of each at most.
use mathlib.Core.Path.{◌≡◌}
use Prim.Native.Nat.{◌-◌, ◌≤◌}
use Rattle.record.specs.Layout.{ledger_of}
use Rattle.shown_heavy.specs.Heavy.{light_to}
use Rattle.shown_heavy.proofs.count_light.Given as goal

abbrev pub invariant-loop-n : goal.invariant-loop-n
invariant-loop-n l =
    (l.n ≤ l.nodes) × (l.nodes ≡ (ledger_of l.rec).count) × (l.sum ≡ light_to (ledger_of l.rec) l.s.0 l.n)

abbrev pub decreases-loop-n : goal.decreases-loop-n
decreases-loop-n l =
    l.nodes - l.n
