-- Rule E by the ways through its two tests; its casts are those of cast_skip_fallback.
use mathlib.Core.Path.{◌∙◌, sym}
use Prim.Native.Nat.{ℕ}
use borrow.Author.Rules.{rules}
use Rattle.rulebook.specs.Rules.{State}
use Rattle.record.specs.Layout.{ledger_of}
use Rattle.voter.proofs.LiveLaws.{onward_none, onward_is}
use Rattle.voter.specs.Outbox.{state_in}
use Rattle.fallbacks.proofs.FallbackLaws.{E-on, E-none, E-off}
use Rattle.fallbacks.proofs.UnderLaws.{under_carded, under_judging}
use Rattle.fallbacks.proofs.rule_e.Goals as goal

pub may_skip-requires : goal.may_skip-requires
may_skip-requires c = search (rules, under_carded)

pub skip_weights-requires : goal.skip_weights-requires
skip_weights-requires c = search (rules, under_judging)

pub returns-then-skip_weights : goal.returns-then-skip_weights
returns-then-skip_weights c =
    let a = c.args in let p = c.requires in let o : State = state_in a.rec.now a.outbox.now a.at in let s : ℕ = a.s.0 in let l = ledger_of a.rec.now in
    let e = sym c.may_skip.ensures ∙ c.if-may_skip.true in
    let f = sym c.skip_weights.ensures ∙ c.if-skip_weights.true in
    onward_is c.cast_skip_fallback.ensures (sym (E-on o s e f))

pub returns-else-skip_weights : goal.returns-else-skip_weights
returns-else-skip_weights c =
    let a = c.args in let p = c.requires in let o : State = state_in a.rec.now a.outbox.now a.at in let s : ℕ = a.s.0 in let l = ledger_of a.rec.now in
    onward_none p.under.live.live (sym (E-none o s (sym c.may_skip.ensures ∙ c.if-may_skip.true) (sym c.skip_weights.ensures ∙ c.if-skip_weights.false)))

pub returns-else-may_skip : goal.returns-else-may_skip
returns-else-may_skip c =
    let a = c.args in let p = c.requires in let o : State = state_in a.rec.now a.outbox.now a.at in let s : ℕ = a.s.0 in let l = ledger_of a.rec.now in
    onward_none p.under.live.live (sym (E-off o s (sym c.may_skip.ensures ∙ c.if-may_skip.false)))
