-- The leader alone, then skip by itself, then all of it.
use mathlib.Core.Path.{◌∙◌, sym}
use native.Mathlib.Omega.{arith}
use Rattle.rulebook.specs.declared.Who.TheVariants as who
use Rattle.rule_laws.proofs.WeightLaws.{none_missing, reaches_found}
use Rattle.record.specs.Layout.{ledger_of}
use Rattle.pool.proofs.HeldLaws.{weigh_light}
use Rattle.pool.proofs.CardLaws.{card_is}
use Rattle.candidates.proofs.CardLaws.{card_within, card_alone, most_within, skip_alone, skip_enough, skip_all}
use Rattle.candidates.proofs.skip_weights.Goals as goal

pub leads_alone-requires : goal.leads_alone-requires
leads_alone-requires c =
    card_alone (ledger_of c.args.rec.now) c.args.s.0 c.requires.carded.weighing.table _ (card_is c.requires.carded _ c.load_card-card.ensures) _ c.total-total.ensures

pub returns-then-leads_alone : goal.returns-then-leads_alone
returns-then-leads_alone c =
    sym (skip_alone (ledger_of c.args.rec.now) c.args.s.0 c.requires.carded.weighing.table _ (card_is c.requires.carded _ c.load_card-card.ensures) _ c.total-total.ensures c.requires.initial _ c.leads_alone.ensures c.if-leads_alone.true)

pub returns-then-to_forty-eq0 : goal.returns-then-to_forty-eq0
returns-then-to_forty-eq0 c =
    sym (skip_enough (ledger_of c.args.rec.now) c.args.s.0 c.requires.carded.weighing.table _ (card_is c.requires.carded _ c.load_card-card.ensures) _ c.total-total.ensures (none_missing _ _ _ _ c.missing-to_forty.ensures c.if-to_forty-eq0.true))

pub overflow_add-rest : goal.overflow_add-rest
overflow_add-rest c =
    let w = card_within (ledger_of c.args.rec.now) c.args.s.0 c.requires.carded.weighing.table _ (card_is c.requires.carded _ c.load_card-card.ensures) _ c.total-total.ensures in
    omega (arith, w.skip, w.light, weigh_light c.requires.carded.weighing.table c.args.s.0 who.AnyNotar, c.requires.carded.weighing.table.light, c.weigh-notars.ensures)

pub overflow_sub-rest : goal.overflow_sub-rest
overflow_sub-rest c =
    omega (arith, most_within (ledger_of c.args.rec.now) c.args.s.0 c.requires.carded.weighing.table _ (card_is c.requires.carded _ c.load_card-card.ensures) _ c.total-total.ensures _ c.weigh-notars.ensures)

pub returns : goal.returns
returns c =
    sym (reaches_found _ _ _ _ c.missing-short.ensures)
    ∙ skip_all (ledger_of c.args.rec.now) c.args.s.0 c.requires.carded.weighing.table _ (card_is c.requires.carded _ c.load_card-card.ensures) _ c.total-total.ensures _ c.weigh-notars.ensures
