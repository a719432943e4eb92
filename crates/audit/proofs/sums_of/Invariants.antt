-- The loop has summed the cells of the nodes behind it.
use mathlib.Core.Path.{◌≡◌}
use Prim.Native.Nat.{◌-◌, ◌≤◌}
use Rattle.record.specs.Layout.{ledger_of}
use Rattle.audit.specs.Summing.{sums_to}
use Rattle.audit.proofs.sums_of.Given as goal

abbrev pub invariant-loop-n : goal.invariant-loop-n
invariant-loop-n l =
    (l.n ≤ l.voters) × (l.sums ≡ sums_to (ledger_of l.rec) l.s.0 l.b l.n)

abbrev pub decreases-loop-n : goal.decreases-loop-n
decreases-loop-n l =
    l.voters - l.n
