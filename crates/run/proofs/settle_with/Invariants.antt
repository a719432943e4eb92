-- The settling loop: its memory holds a state that the run goes through, and the potential falls with every turn.
use Rattle.record.specs.Layout.{ledger_of}
use Rattle.settling.specs.Spare.{spare}
use Rattle.looks.specs.Looks.{Bounds}
use Rattle.run.proofs.ScanLaws.{Settling}
use Rattle.run.proofs.settle_with.Given as goal

abbrev pub invariant-loop-made : goal.invariant-loop-made
invariant-loop-made l =
    Settling l.initial.rec l.initial.outbox l.at l.rec l.outbox l.made × Bounds (ledger_of l.rec) l.looks

abbrev pub decreases-loop-made : goal.decreases-loop-made
decreases-loop-made l =
    spare (ledger_of l.rec)
