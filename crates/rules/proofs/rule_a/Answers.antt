-- Rule A by the ways through its two tests; the window armed is paid from the potential.
use mathlib.Core.Path.{◌∙◌, sym}
use Prim.Native.Nat.{ℕ}
use borrow.Author.Rules.{rules}
use Rattle.rulebook.specs.Ledger.{put_armed}
use Rattle.rulebook.specs.Rules.{State}
use Rattle.record.specs.Layout.{ledger_of}
use Rattle.voter.proofs.LiveLaws.{onward, onward_none}
use Rattle.voter.proofs.CastLaws.{moved_report}
use Rattle.voter.proofs.OutboxLaws.{moved_is}
use Rattle.voter.specs.Outbox.{state_in}
use Rattle.settling.proofs.Spending.{A-comes}
use Rattle.rules.proofs.RuleLaws.{A-on, A-none, A-off}
use Rattle.fallbacks.proofs.UnderLaws.{under_carded}
use Rattle.rules.proofs.rule_a.Goals as goal

pub some_ready-requires : goal.some_ready-requires
some_ready-requires c = search (rules, under_carded)

pub returns-then-some_ready : goal.returns-then-some_ready
returns-then-some_ready c =
    let a = c.args in let p = c.requires in let o : State = state_in a.rec.now a.outbox.now a.at in let s : ℕ = a.s.0 in let l = ledger_of a.rec.now in
    let e = sym c.may_arm.ensures ∙ c.if-may_arm.true in
    let f = sym c.some_ready.ensures ∙ c.if-some_ready.true in
    onward p.live.live c.arm.auto.rec c.tell.auto.outbox (moved_is (moved_report (put_armed l s) c.tell.ensures c.arm.ensures) (sym (A-on o s e f))) (A-comes o p.live.live.sound s p.live.low p.live.high)

pub returns-else-some_ready : goal.returns-else-some_ready
returns-else-some_ready c =
    let a = c.args in let p = c.requires in let o : State = state_in a.rec.now a.outbox.now a.at in let s : ℕ = a.s.0 in let l = ledger_of a.rec.now in
    onward_none p.live.live (sym (A-none o s (sym c.may_arm.ensures ∙ c.if-may_arm.true) (sym c.some_ready.ensures ∙ c.if-some_ready.false)))

pub returns-else-may_arm : goal.returns-else-may_arm
returns-else-may_arm c =
    let a = c.args in let p = c.requires in let o : State = state_in a.rec.now a.outbox.now a.at in let s : ℕ = a.s.0 in let l = ledger_of a.rec.now in
    onward_none p.live.live (sym (A-off o s (sym c.may_arm.ensures ∙ c.if-may_arm.false)))
