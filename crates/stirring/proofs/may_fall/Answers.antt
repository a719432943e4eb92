-- The leader's share, the own vote, what is left beside the leader.
use mathlib.Core.Path.{refl}
use mathlib.Core.Bool.{true}
use native.Mathlib.Omega.{arith}
use Rattle.rule_laws.proofs.ToolLaws.{true_not_false}
use Rattle.record.specs.Layout.{ledger_of}
use Rattle.pool.proofs.CardLaws.{card_is}
use Rattle.candidates.proofs.CardLaws.{card_alone}
use Rattle.stirring.proofs.Asked.{falls_none, falls_alone}
use Rattle.stirring.proofs.may_fall.Goals as goal

pub returns-then-short-ne0 : goal.returns-then-short-ne0
returns-then-short-ne0 c =
    let a = c.args in
    let h = c.requires.carded in
    λ _. falls_none (ledger_of a.rec.now) a.t.0 h.weighing.table _ (card_is h _ c.load_card-card.ensures) _ c.total-all.ensures _ c.missing-short.ensures c.if-short-ne0.true

pub returns-then-c-card : goal.returns-then-c-card
returns-then-c-card c = λ e. true_not_false true refl e

pub overflow_sub-all : goal.overflow_sub-all
overflow_sub-all c =
    let h = c.requires.carded in
    omega (arith, (card_alone (ledger_of c.args.rec.now) c.args.t.0 h.weighing.table _ (card_is h _ c.load_card-card.ensures) _ c.total-all.ensures).notar)

pub missing-rest-requires : goal.missing-rest-requires
missing-rest-requires c = omega (arith, c.total-all.ensures, c.requires.carded.weighing.table.light)

pub returns : goal.returns
returns c =
    let a = c.args in
    let h = c.requires.carded in
    λ e. falls_alone (ledger_of a.rec.now) a.t.0 h.weighing.table _ (card_is h _ c.load_card-card.ensures) _ c.total-all.ensures c.requires.initial _ c.own_cell-c.ensures c.if-c-card.false _ c.missing-rest.ensures e
