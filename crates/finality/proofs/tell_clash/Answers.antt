-- A marked slot tells nothing; else the mark is set, and the record is paid from the potential.
use mathlib.Core.Path.{◌∙◌, sym}
use Prim.Native.Nat.{ℕ}
use borrow.Author.Tests.{eq-eqb, ne_eqb}
use Rattle.rulebook.specs.Ledger.{put_clash}
use Rattle.rulebook.specs.Rules.{State}
use Rattle.record.specs.Layout.{ledger_of}
use Rattle.voter.proofs.LiveLaws.{onward, onward_none}
use Rattle.voter.proofs.CastLaws.{moved_report}
use Rattle.voter.proofs.OutboxLaws.{moved_is}
use Rattle.voter.specs.Outbox.{state_in}
use Rattle.settling.proofs.Spending.{clash_comes}
use Rattle.finality.proofs.FinalLaws.{clash_on, clash_off}
use Rattle.finality.proofs.tell_clash.Goals as goal

pub returns-then-clash_word-ne0 : goal.returns-then-clash_word-ne0
returns-then-clash_word-ne0 c =
    let a = c.args in
    let o : State = state_in a.rec.now a.outbox.now a.at in
    onward_none c.requires.live (sym (clash_off o a.s.0 a.b (ne_eqb _ 0 (λ z. c.if-clash_word-ne0.true (c.clash_word.ensures ∙ z)))))

pub returns : goal.returns
returns c =
    let a = c.args in
    let p = c.requires in
    let o : State = state_in a.rec.now a.outbox.now a.at in
    let s : ℕ = a.s.0 in
    let e = eq-eqb _ 0 (sym c.clash_word.ensures ∙ c.if-clash_word-ne0.false) in
    onward p.live c.mark_clash.auto.rec c.tell.auto.outbox
    (moved_is (moved_report (put_clash (ledger_of a.rec.now) s) c.tell.ensures c.mark_clash.ensures) (sym (clash_on o s a.b e)))
    (clash_comes o p.live.sound s p.low p.high a.b)
