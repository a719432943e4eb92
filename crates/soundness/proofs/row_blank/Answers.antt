-- A leader or a skip vote is something; else all words are looked at.
use Rattle.record.specs.Layout.{ledger_of}
use Rattle.soundness.proofs.Blank.{voted_filled}
use Rattle.soundness.proofs.row_blank.Goals as goal

pub returns-then-t-skips : goal.returns-then-t-skips
returns-then-t-skips c =
    let a = c.args in
    voted_filled (ledger_of a.rec.now) a.s.0 c.load_card-t.result c.load_card-t.ensures c.if-t-skips.true
