-- No block or the final block itself, then F's test.
use Rattle.record.specs.Layout.{ledger_of}
use Rattle.candidates.proofs.NewcomerLaws.{newcomer_off, newcomer_on}
use Rattle.candidates.proofs.lower_newcomer.Goals as goal

pub returns-then-b-final_block : goal.returns-then-b-final_block
returns-then-b-final_block c =
    let a = c.args in
    newcomer_off (ledger_of a.rec.now) a.s.0 a.b _ c.final_block.ensures a.m c.if-b-final_block.true

pub returns : goal.returns
returns c =
    let a = c.args in
    newcomer_on (ledger_of a.rec.now) a.s.0 a.b _ c.final_block.ensures _ a.m _ c.if-b-final_block.false c.is_final.ensures c.lower.ensures
