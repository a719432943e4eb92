-- The memory holds the state of the start while what was asked does not apply.
use Prim.Native.Nat.{◌-◌}
use Rattle.run.proofs.ScanLaws.{Asking}
use Rattle.run.proofs.ask_slot.Given as goal

abbrev pub invariant-loop-r : goal.invariant-loop-r
invariant-loop-r l =
    Asking l.initial.rec l.initial.outbox l.at l.rec l.outbox l.made l.s.0 l.r

abbrev pub decreases-loop-r : goal.decreases-loop-r
decreases-loop-r l =
    6 - l.r
