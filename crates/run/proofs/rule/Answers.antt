-- Each place in the order is its rule; a watcher passes over those that vote, and there is no eighth.
use mathlib.Core.Path.{◌≡◌, ◌∙◌, ap, sym}
use Prim.Native.Nat.{ℕ}
use native.Mathlib.Omega.{arith}
use Rattle.rulebook.specs.Run.{rule_at}
use Rattle.rulebook.specs.Rules.{State}
use Rattle.settling.proofs.RunLaws.{rule_a_lem, rule_b_lem, rule_c_lem, rule_d_lem, rule_e_lem, rule_f_lem, rule_g_lem}
use Rattle.voter.proofs.LiveLaws.{onward_none, onward_is}
use Rattle.voter.specs.Outbox.{state_in}
use Rattle.run.proofs.ScanLaws.{voting_at, watcher_passes, rule_beyond}
use Rattle.run.proofs.rule.Goals as goal

pub returns-then-watches-r : goal.returns-then-watches-r
returns-then-watches-r c =
    watcher_passes c.args.s.0 c.requires.under.live.live _ c.args.r c.is_watcher-watches.ensures c.if-watches-r.true

pub rule_b-requires : goal.rule_b-requires
rule_b-requires c =
    let e = c.in-1.is in
    voting_at c.requires.under _ c.args.r c.is_watcher-watches.ensures c.if-watches-r.false (omega arith) (omega arith)

pub rule_c-requires : goal.rule_c-requires
rule_c-requires c =
    let e = c.in-2.is in
    voting_at c.requires.under _ c.args.r c.is_watcher-watches.ensures c.if-watches-r.false (omega arith) (omega arith)

pub rule_d-requires : goal.rule_d-requires
rule_d-requires c =
    let e = c.in-3.is in
    voting_at c.requires.under _ c.args.r c.is_watcher-watches.ensures c.if-watches-r.false (omega arith) (omega arith)

pub rule_e-requires : goal.rule_e-requires
rule_e-requires c =
    let e = c.in-4.is in
    voting_at c.requires.under _ c.args.r c.is_watcher-watches.ensures c.if-watches-r.false (omega arith) (omega arith)

pub returns-in-0 : goal.returns-in-0
returns-in-0 c =
    let a = c.args in let o : State = state_in a.rec.now a.outbox.now a.at in let s : ℕ = a.s.0 in
    let e : a.r ≡ 0 = c.in-0.is in
    onward_is c.rule_a.ensures (sym (rule_a_lem o s) ∙ ap (λ (x : ℕ). rule_at x o s) (sym e))

pub returns-in-1 : goal.returns-in-1
returns-in-1 c =
    let a = c.args in let o : State = state_in a.rec.now a.outbox.now a.at in let s : ℕ = a.s.0 in
    let e : a.r ≡ 1 = c.in-1.is in
    let v = voting_at c.requires.under _ a.r c.is_watcher-watches.ensures c.if-watches-r.false (omega (arith, e)) (omega (arith, e)) in
    onward_is c.rule_b.ensures (sym (rule_b_lem o s v.votes) ∙ ap (λ (x : ℕ). rule_at x o s) (sym e))

pub returns-in-2 : goal.returns-in-2
returns-in-2 c =
    let a = c.args in let o : State = state_in a.rec.now a.outbox.now a.at in let s : ℕ = a.s.0 in
    let e : a.r ≡ 2 = c.in-2.is in
    let v = voting_at c.requires.under _ a.r c.is_watcher-watches.ensures c.if-watches-r.false (omega (arith, e)) (omega (arith, e)) in
    onward_is c.rule_c.ensures (sym (rule_c_lem o s v.votes) ∙ ap (λ (x : ℕ). rule_at x o s) (sym e))

pub returns-in-3 : goal.returns-in-3
returns-in-3 c =
    let a = c.args in let o : State = state_in a.rec.now a.outbox.now a.at in let s : ℕ = a.s.0 in
    let e : a.r ≡ 3 = c.in-3.is in
    let v = voting_at c.requires.under _ a.r c.is_watcher-watches.ensures c.if-watches-r.false (omega (arith, e)) (omega (arith, e)) in
    onward_is c.rule_d.ensures (sym (rule_d_lem o s v.votes) ∙ ap (λ (x : ℕ). rule_at x o s) (sym e))

pub returns-in-4 : goal.returns-in-4
returns-in-4 c =
    let a = c.args in let o : State = state_in a.rec.now a.outbox.now a.at in let s : ℕ = a.s.0 in
    let e : a.r ≡ 4 = c.in-4.is in
    let v = voting_at c.requires.under _ a.r c.is_watcher-watches.ensures c.if-watches-r.false (omega (arith, e)) (omega (arith, e)) in
    onward_is c.rule_e.ensures (sym (rule_e_lem o s v.votes) ∙ ap (λ (x : ℕ). rule_at x o s) (sym e))

pub returns-in-5 : goal.returns-in-5
returns-in-5 c =
    let a = c.args in let o : State = state_in a.rec.now a.outbox.now a.at in let s : ℕ = a.s.0 in
    let e : a.r ≡ 5 = c.in-5.is in
    onward_is c.rule_f.ensures (sym (rule_f_lem o s) ∙ ap (λ (x : ℕ). rule_at x o s) (sym e))

pub returns-in-6 : goal.returns-in-6
returns-in-6 c =
    let a = c.args in let o : State = state_in a.rec.now a.outbox.now a.at in let s : ℕ = a.s.0 in
    let e : a.r ≡ 6 = c.in-6.is in
    onward_is c.walk.ensures (sym (rule_g_lem o s) ∙ ap (λ (x : ℕ). rule_at x o s) (sym e))

pub returns-in_default : goal.returns-in_default
returns-in_default c =
    let n = c.in_default.in_default-own.rest in
    onward_none c.requires.under.live.live (rule_beyond c.args.r _ c.args.s.0 n.0.0.0.0.0.0.1 n.0.0.0.0.0.1 n.0.0.0.0.1 n.0.0.0.1 n.0.0.1 n.0.1 n.1)
