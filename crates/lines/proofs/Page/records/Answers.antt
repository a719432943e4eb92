-- The loop over the records: those before the present one are put.
use Rattle.lines.proofs.Paging.{as_text}
use Rattle.lines.proofs.Composed.{no_record, next_record, last_record}
use Rattle.lines.proofs.Records.{record_alone, last_alone}
use Rattle.lines.proofs.Page.records.Goals as goal

pub loop-words-init : goal.loop-words-init
loop-words-init c = no_record _ c.args.outbox.now

pub loop-words-preserved : goal.loop-words-preserved
loop-words-preserved c =
    next_record c.args.outbox.now _ c.loop-words.invariant (as_text (record_alone _ _ _ c.loop-words.words-index c.as_chunks.ensures.front c.as_chunks.ensures.front_len c.loop-words-test.true) c.record.ensures)

pub returns : goal.returns
returns c =
    last_record c.args.outbox.now _ c.loop-words.words-index (last_alone _ _ _ _ _ c.min-many.ensures c.as_chunks.ensures.front_len c.loop-words-test.false c.loop-words.auto.words-index-end) c.loop-words.invariant
