-- The look, the leader, its weight.
use Rattle.record.specs.Layout.{ledger_of}
use Rattle.pool.proofs.CardLaws.{card_is}
use Rattle.stirring.proofs.Asked.{opens_short, opens_other, opens_led}
use Rattle.stirring.proofs.opens_block.Goals as goal

pub returns-then-is_short : goal.returns-then-is_short
returns-then-is_short c =
    let a = c.args in
    opens_short (ledger_of a.rec.now) a.looks.now a.s.0 a.b _ c.is_short.ensures c.if-is_short.true

pub returns-then-card-b : goal.returns-then-card-b
returns-then-card-b c =
    let a = c.args in
    opens_other (ledger_of a.rec.now) a.looks.now a.s.0 a.b _ c.is_short.ensures c.if-is_short.false _ (card_is c.requires _ c.load_card-card.ensures) c.if-card-b.true

pub returns : goal.returns
returns c =
    let a = c.args in
    opens_led (ledger_of a.rec.now) a.looks.now a.s.0 a.b _ c.is_short.ensures c.if-is_short.false _ (card_is c.requires _ c.load_card-card.ensures) _ c.if-card-b.false c.leader_held.ensures
