-- The two loops: the memory holds the state of the start while what was tried does not apply; left by label at the first rule that does.
use Prim.Native.Nat.{◌-◌}
use Rattle.run.proofs.ScanLaws.{Trying, Searching}
use Rattle.run.proofs.scan_slots.Given as goal

abbrev pub invariant-loop-r : goal.invariant-loop-r
invariant-loop-r l =
    Trying l.initial.rec l.initial.outbox l.initial.made l.rec l.outbox l.made l.s l.r

abbrev pub decreases-loop-r : goal.decreases-loop-r
decreases-loop-r l =
    7 - l.r

abbrev pub invariant-scan : goal.invariant-scan
invariant-scan l =
    Searching l.initial.rec l.initial.outbox l.at l.rec l.outbox l.made l.s

abbrev pub decreases-scan : goal.decreases-scan
decreases-scan l =
    17 - l.s
