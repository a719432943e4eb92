-- Rule D by the ways through its two tests; its casts are those of cast_fallback.
use mathlib.Core.Path.{◌∙◌, ap, sym}
use Prim.Native.Nat.{ℕ}
use borrow.Author.Tests.{eq-eqb, ne_eqb}
use borrow.Author.Rules.{rules}
use Rattle.rulebook.specs.Ledger.{no_initial}
use Rattle.rulebook.specs.Rules.{State, cast_fallback}
use Rattle.rulebook.specs.declared.Cell.{Cell}
use Rattle.record.specs.Layout.{ledger_of}
use Rattle.voter.proofs.LiveLaws.{onward_none, onward_is}
use Rattle.voter.specs.Outbox.{state_in}
use Rattle.fallbacks.proofs.FallbackLaws.{D-on, D-none, D-off, weighed_block}
use Rattle.fallbacks.proofs.UnderLaws.{under_judging, under_casting}
use Rattle.fallbacks.proofs.rule_d.Goals as goal

pub returns-then-no_initial : goal.returns-then-no_initial
returns-then-no_initial c =
    let a = c.args in let p = c.requires in let o : State = state_in a.rec.now a.outbox.now a.at in let s : ℕ = a.s.0 in let l = ledger_of a.rec.now in
    let ec = c.own_cell.ensures in
    onward_none p.under.live.live (sym (D-off o s (ap (λ (x : Cell). no_initial x) (sym ec) ∙ sym c.no_initial.ensures ∙ c.if-no_initial.true)))

pub fallback_block-b-requires : goal.fallback_block-b-requires
fallback_block-b-requires c = search (rules, under_judging)

pub returns-then-b-eq0 : goal.returns-then-b-eq0
returns-then-b-eq0 c =
    let a = c.args in let p = c.requires in let o : State = state_in a.rec.now a.outbox.now a.at in let s : ℕ = a.s.0 in let l = ledger_of a.rec.now in
    let ec = c.own_cell.ensures in
    let e = ap (λ (x : Cell). no_initial x) (sym ec) ∙ sym c.no_initial.ensures ∙ c.if-no_initial.false in
    onward_none p.under.live.live (sym (D-none o s e (eq-eqb _ 0 (sym c.fallback_block-b.ensures ∙ c.if-b-eq0.true))))

pub cast_fallback-requires : goal.cast_fallback-requires
cast_fallback-requires c = weighed_block (under_casting c.requires) c.fallback_block-b.ensures c.if-b-eq0.false

pub returns : goal.returns
returns c =
    let a = c.args in let p = c.requires in let o : State = state_in a.rec.now a.outbox.now a.at in let s : ℕ = a.s.0 in let l = ledger_of a.rec.now in
    let ec = c.own_cell.ensures in
    let e = ap (λ (x : Cell). no_initial x) (sym ec) ∙ sym c.no_initial.ensures ∙ c.if-no_initial.false in
    let eb = c.fallback_block-b.ensures in
    onward_is c.cast_fallback.ensures (ap (λ (x : ℕ). cast_fallback o s x) eb ∙ sym (D-on o s e (ne_eqb _ 0 (λ z. c.if-b-eq0.false (eb ∙ z)))))
