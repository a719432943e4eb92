-- The loop over the first record's places: the lines of those behind it are put.
use Prim.Native.Nat.{◌-◌, ◌≤◌}
use Rattle.rulebook.specs.Ledger.{most_blocks, blocks_at}
use Rattle.record.specs.Layout.{ledger_of}
use Rattle.same_parents.specs.Parents.{Laid, lines_to}
use Rattle.same_parents.proofs.Laws.{place_at}
use Rattle.same_parents.proofs.put_slot.Given as goal

abbrev pub invariant-loop-i : goal.invariant-loop-i
invariant-loop-i l =
    (l.i ≤ most_blocks) × Laid l.initial.list l.at (lines_to l.i (place_at l.s.0 (blocks_at (ledger_of l.one) l.s.0) (blocks_at (ledger_of l.two) l.s.0))) l.list l.next

abbrev pub decreases-loop-i : goal.decreases-loop-i
decreases-loop-i l =
    most_blocks - l.i
