-- The leader's weights, then the leader alone, then each block.
use mathlib.Core.Path.{◌∙◌, sym}
use Rattle.record.specs.Layout.{ledger_of}
use Rattle.pool.proofs.CardLaws.{card_is}
use Rattle.candidates.proofs.CardLaws.{card_within, card_alone, block_none, block_leader}
use Rattle.candidates.proofs.fallback_block.Goals as goal

pub is_heavy-requires : goal.is_heavy-requires
is_heavy-requires c =
    card_within (ledger_of c.args.rec.now) c.args.s.0 c.requires.carded.weighing.table _ (card_is c.requires.carded _ c.load_card-card.ensures) _ c.total-total.ensures

pub returns-then-not-is_heavy : goal.returns-then-not-is_heavy
returns-then-not-is_heavy c =
    sym (block_none (ledger_of c.args.rec.now) c.args.s.0 c.requires.carded.weighing.table _ (card_is c.requires.carded _ c.load_card-card.ensures) _ c.total-total.ensures (sym c.is_heavy.ensures ∙ c.if-not-is_heavy.true))

pub leads_alone-requires : goal.leads_alone-requires
leads_alone-requires c =
    card_alone (ledger_of c.args.rec.now) c.args.s.0 c.requires.carded.weighing.table _ (card_is c.requires.carded _ c.load_card-card.ensures) _ c.total-total.ensures

pub returns-then-leads_alone : goal.returns-then-leads_alone
returns-then-leads_alone c =
    block_leader (ledger_of c.args.rec.now) c.args.s.0 c.requires.carded.weighing.table _ (card_is c.requires.carded _ c.load_card-card.ensures) _ c.total-total.ensures c.requires.initial _ c.leads_alone.ensures c.if-leads_alone.true _ _ c.falls_back.ensures c.lower.ensures

pub returns : goal.returns
returns c = c.lowest_fallback.ensures
