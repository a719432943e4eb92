-- The slot's first final block is told, itself again is not, and another is told as such.
use mathlib.Core.Path.{◌∙◌, sym}
use Prim.Native.Nat.{ℕ}
use lib.Dec.{eqb}
use borrow.Author.Tests.{eq-eqb, ne_eqb}
use Rattle.rulebook.specs.Ledger.{put_final}
use Rattle.rulebook.specs.Rules.{State}
use Rattle.record.specs.Layout.{ledger_of}
use Rattle.voter.proofs.LiveLaws.{onward, onward_none, onward_is}
use Rattle.voter.proofs.CastLaws.{moved_report}
use Rattle.voter.proofs.OutboxLaws.{moved_is}
use Rattle.voter.specs.Outbox.{state_in}
use Rattle.settling.proofs.Spending.{tell_comes}
use Rattle.finality.proofs.FinalLaws.{final_first, final_same, final_other}
use Rattle.finality.proofs.tell_final.Goals as goal

pub returns-then-f-eq0 : goal.returns-then-f-eq0
returns-then-f-eq0 c =
    let a = c.args in
    let p = c.requires in
    let o : State = state_in a.rec.now a.outbox.now a.at in
    let s : ℕ = a.s.0 in
    let e = eq-eqb _ 0 (sym c.final_block-f.ensures ∙ c.if-f-eq0.true) in
    onward p.live.live c.set_final.auto.rec c.tell.auto.outbox
    (moved_is (moved_report (put_final (ledger_of a.rec.now) s a.b) c.tell.ensures c.set_final.ensures) (sym (final_first o s a.b e)))
    (tell_comes o p.live.live.sound s p.live.low p.live.high a.b p.block)

pub returns-then-f-b : goal.returns-then-f-b
returns-then-f-b c =
    let a = c.args in
    let o : State = state_in a.rec.now a.outbox.now a.at in
    let is = c.final_block-f.ensures in
    onward_none c.requires.live.live
    (sym (final_same o a.s.0 a.b (ne_eqb _ 0 (λ z. c.if-f-eq0.false (is ∙ z))) (eq-eqb _ a.b (sym is ∙ c.if-f-b.true))))

pub returns : goal.returns
returns c =
    let a = c.args in
    let o : State = state_in a.rec.now a.outbox.now a.at in
    let is = c.final_block-f.ensures in
    onward_is c.tell_clash.ensures
    (sym (final_other o a.s.0 a.b (ne_eqb _ 0 (λ z. c.if-f-eq0.false (is ∙ z))) (ne_eqb _ a.b (λ z. c.if-f-b.false (is ∙ z)))))
