-- The leader, then the places for certificates from the last to the first: the lowest of those behind the loop is kept.
use mathlib.Core.Path.{◌≡◌}
use Rattle.record.specs.Layout.{ledger_of}
use Rattle.candidates.proofs.NewcomerLaws.{newcomer_from}
use Rattle.candidates.proofs.newcomer.Given as goal

abbrev pub invariant-loop-n : goal.invariant-loop-n
invariant-loop-n l = l.best ≡ newcomer_from (ledger_of l.rec) l.s.0 l.n
