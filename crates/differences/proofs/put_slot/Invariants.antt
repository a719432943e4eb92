-- The loop over the nodes: the lines of those behind it are put.
use Prim.Native.Nat.{◌-◌, ◌≤◌}
use Rattle.record.specs.Layout.{ledger_of}
use Rattle.difference_lines.specs.Lines.{lines_to, node_lines}
use Rattle.differences.specs.Lent.{Laid}
use Rattle.differences.proofs.put_slot.Given as goal

abbrev pub invariant-loop-n : goal.invariant-loop-n
invariant-loop-n l =
    (l.n ≤ l.nodes) × Laid l.initial.list l.at (lines_to l.n (node_lines (ledger_of l.one) (ledger_of l.two) l.slot.0)) l.list l.next

abbrev pub decreases-loop-n : goal.decreases-loop-n
decreases-loop-n l =
    l.nodes - l.n
