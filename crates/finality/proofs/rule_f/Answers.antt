-- Rule F by its one test: the newcomer that was found is told of.
use mathlib.Core.Path.{◌∙◌, ap, sym}
use borrow.Author.Tests.{eq-eqb, ne_eqb}
use borrow.Author.Rules.{rules}
use Rattle.rulebook.specs.Rules.{State, tell_final}
use Rattle.voter.proofs.LiveLaws.{onward_none, onward_is}
use Rattle.voter.specs.Outbox.{state_in}
use Rattle.finality.proofs.FinalLaws.{F-on, F-off}
use Rattle.fallbacks.proofs.UnderLaws.{under_carded}
use Rattle.finality.proofs.rule_f.Goals as goal

pub newcomer-b-requires : goal.newcomer-b-requires
newcomer-b-requires c = search (rules, under_carded)

pub returns-then-b-eq0 : goal.returns-then-b-eq0
returns-then-b-eq0 c =
    let a = c.args in
    let o : State = state_in a.rec.now a.outbox.now a.at in
    onward_none c.requires.live.live (sym (F-off o a.s.0 (eq-eqb _ 0 (sym c.newcomer-b.ensures ∙ c.if-b-eq0.true))))

pub tell_final-requires : goal.tell_final-requires
tell_final-requires c = record { live = c.requires.live; block = ne_eqb _ 0 c.if-b-eq0.false }

pub returns : goal.returns
returns c =
    let a = c.args in
    let o : State = state_in a.rec.now a.outbox.now a.at in
    let is = c.newcomer-b.ensures in
    onward_is c.tell_final.ensures
    (ap (tell_final o a.s.0) is ∙ sym (F-on o a.s.0 (ne_eqb _ 0 (λ z. c.if-b-eq0.false (is ∙ z)))))
