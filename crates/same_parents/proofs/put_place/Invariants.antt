-- The loop over the second record's places: the lines of those behind it are put.
use Prim.Native.Nat.{◌-◌, ◌≤◌}
use Rattle.rulebook.specs.Ledger.{most_blocks, blocks_at}
use Rattle.record.specs.Layout.{ledger_of}
use Rattle.same_parents.specs.Parents.{Laid, lines_to}
use Rattle.same_parents.proofs.Laws.{pair_at}
use Rattle.same_parents.proofs.put_place.Given as goal

abbrev pub invariant-loop-j : goal.invariant-loop-j
invariant-loop-j l =
    (l.j ≤ most_blocks) × Laid l.initial.list l.at (lines_to l.j (pair_at l.s.0 l.a (blocks_at (ledger_of l.two) l.s.0))) l.list l.next

abbrev pub decreases-loop-j : goal.decreases-loop-j
decreases-loop-j l =
    most_blocks - l.j
