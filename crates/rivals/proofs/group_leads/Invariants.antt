-- No block behind the loop leads, and none weighs more than its group.
use Prim.Native.Nat.{◌-◌, ◌≤◌}
use Rattle.record.specs.Layout.{ledger_of}
use Rattle.rivals.proofs.Groups.{Grouped}
use Rattle.rivals.proofs.group_leads.Given as goal

abbrev pub invariant-loop-n : goal.invariant-loop-n
invariant-loop-n l =
    (l.n ≤ l.nodes) × Grouped (ledger_of l.rec) l.s.0 l.b l.v.0 l.size l.groups l.n

abbrev pub decreases-loop-n : goal.decreases-loop-n
decreases-loop-n l =
    l.nodes - l.n
