-- Rule C by the ways through its two tests, on the own votes that were loaded.
use mathlib.Core.Path.{◌∙◌, ap, sym}
use Prim.Native.Nat.{ℕ}
use borrow.Author.Rules.{rules}
use Rattle.rulebook.specs.Pool.{held}
use Rattle.rulebook.specs.Rules.{State, may_final}
use Rattle.rulebook.specs.declared.CertificateKind.TheVariants as certificate
use Rattle.rulebook.specs.declared.Cell.{Cell}
use Rattle.record.specs.Layout.{ledger_of}
use Rattle.voter.proofs.LiveLaws.{casting_castable, onward, onward_none}
use Rattle.voter.proofs.OutboxLaws.{moved_is}
use Rattle.voter.specs.Outbox.{state_in}
use Rattle.settling.proofs.Spending.{C-comes}
use Rattle.rules.proofs.RuleLaws.{C-on, C-none, C-off}
use Rattle.fallbacks.proofs.UnderLaws.{under_carded, under_casting}
use Rattle.rules.proofs.rule_c.Goals as goal

pub held-requires : goal.held-requires
held-requires c = search (rules, under_carded)

pub cast_vote-requires : goal.cast_vote-requires
cast_vote-requires c = casting_castable (under_casting c.requires)

pub returns-then-held : goal.returns-then-held
returns-then-held c =
    let a = c.args in let p = c.requires in let o : State = state_in a.rec.now a.outbox.now a.at in let s : ℕ = a.s.0 in let l = ledger_of a.rec.now in
    let ec = c.own_cell-c.ensures in
    let e = ap (λ (x : Cell). may_final x) (sym ec) ∙ sym c.may_final.ensures ∙ c.if-may_final.true in
    let f = ap (λ (x : Cell). held l certificate.Notar s x.notar) (sym ec) ∙ sym c.held.ensures ∙ c.if-held.true in
    let q = c.cast_vote in
    onward p.under.live.live q.auto.rec q.auto.outbox (moved_is q.ensures (sym (C-on o s e f))) (C-comes o p.under.live.live.sound s p.under.live.low p.under.live.high p.votes)

pub returns-else-held : goal.returns-else-held
returns-else-held c =
    let a = c.args in let p = c.requires in let o : State = state_in a.rec.now a.outbox.now a.at in let s : ℕ = a.s.0 in let l = ledger_of a.rec.now in
    let ec = c.own_cell-c.ensures in
    let e = ap (λ (x : Cell). may_final x) (sym ec) ∙ sym c.may_final.ensures ∙ c.if-may_final.true in
    let f = ap (λ (x : Cell). held l certificate.Notar s x.notar) (sym ec) ∙ sym c.held.ensures ∙ c.if-held.false in
    onward_none p.under.live.live (sym (C-none o s e f))

pub returns-else-may_final : goal.returns-else-may_final
returns-else-may_final c =
    let a = c.args in let p = c.requires in let o : State = state_in a.rec.now a.outbox.now a.at in let s : ℕ = a.s.0 in let l = ledger_of a.rec.now in
    let ec = c.own_cell-c.ensures in
    onward_none p.under.live.live (sym (C-off o s (ap (λ (x : Cell). may_final x) (sym ec) ∙ sym c.may_final.ensures ∙ c.if-may_final.false)))
