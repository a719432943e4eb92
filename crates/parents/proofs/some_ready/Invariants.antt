-- The walk goes down from s: all slots passed hold kind 4, and none of them has a ready parent.
use Rattle.record.specs.Layout.{ledger_of}
use Rattle.parents.proofs.ReadyLaws.{Skipped, NoneFrom}
use Rattle.parents.proofs.some_ready.Given as goal

abbrev pub invariant-loop-q : goal.invariant-loop-q
invariant-loop-q l = Skipped (ledger_of l.rec) l.q l.s.0 × NoneFrom (ledger_of l.rec) l.q l.s.0
