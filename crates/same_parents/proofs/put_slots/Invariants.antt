-- The loop over the slots: the lines of those behind it are put.
use Prim.Native.Nat.{◌-◌, ◌≤◌}
use Rattle.rulebook.specs.Weights.{last_slot}
use Rattle.same_parents.specs.Parents.{Laid, lines_to}
use Rattle.same_parents.proofs.Laws.{slot_at}
use Rattle.same_parents.proofs.put_slots.Given as goal

abbrev pub invariant-loop-i : goal.invariant-loop-i
invariant-loop-i l =
    (l.i ≤ last_slot) × Laid l.initial.list 0 (lines_to l.i (slot_at l.one l.two)) l.list l.next

abbrev pub decreases-loop-i : goal.decreases-loop-i
decreases-loop-i l =
    last_slot - l.i
