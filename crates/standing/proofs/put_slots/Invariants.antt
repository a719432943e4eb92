-- The loop over the slots: the lines of those behind it are put.
use Prim.Native.Nat.{suc, ◌-◌, ◌≤◌}
use Rattle.rulebook.specs.Weights.{last_slot}
use Rattle.record.specs.Layout.{ledger_of}
use Rattle.inquest.specs.Lists.{lines_to, slot_fallen}
use Rattle.inquest_lines.specs.Lent.{Laid}
use Rattle.standing.proofs.put_slots.Given as goal

abbrev pub invariant-loop-i : goal.invariant-loop-i
invariant-loop-i l =
    (l.i ≤ last_slot) × Laid l.initial.list 0 (lines_to l.i (λ k. slot_fallen (ledger_of l.rec) (suc k))) l.list l.next

abbrev pub decreases-loop-i : goal.decreases-loop-i
decreases-loop-i l =
    last_slot - l.i
