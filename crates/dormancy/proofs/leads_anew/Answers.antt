-- The card's leader beside the slot's final block, then its weight.
use Rattle.record.specs.Layout.{ledger_of}
use Rattle.pool.proofs.CardLaws.{card_is}
use Rattle.dormancy.proofs.DormantLaws.{leads_final, leads_other}
use Rattle.dormancy.proofs.leads_anew.Goals as goal

pub returns-then-card-final_block : goal.returns-then-card-final_block
returns-then-card-final_block c =
    leads_final (ledger_of c.args.rec.now) c.args.s.0 c.requires.weighing.table _ (card_is c.requires _ c.load_card-card.ensures) _ c.final_block.ensures c.if-card-final_block.true

pub returns : goal.returns
returns c =
    leads_other (ledger_of c.args.rec.now) c.args.s.0 c.requires.weighing.table _ (card_is c.requires _ c.load_card-card.ensures) _ _ c.final_block.ensures c.if-card-final_block.false c.leader_held.ensures
