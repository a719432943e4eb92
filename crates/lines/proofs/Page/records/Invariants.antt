-- The loop over the records: those before the present one are put.
use Rattle.lines.specs.Text.{records_to}
use Rattle.lines.specs.Page.{Wrote}
use Rattle.lines.proofs.Page.records.Given as goal

abbrev pub invariant-loop-words : goal.invariant-loop-words
invariant-loop-words l = Wrote l.initial.self (records_to l.outbox l.words-index) l.self
