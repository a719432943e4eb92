-- Rule B by the ways through its two tests, on what was loaded of the slot.
use mathlib.Core.Path.{◌∙◌, ap, sym}
use mathlib.Core.Bool.{true, false}
use Prim.Native.Nat.{ℕ}
use borrow.Author.Rules.{rules}
use Rattle.rulebook.specs.Weights.{is_first}
use Rattle.rulebook.specs.Ledger.{own_cell, first_block}
use Rattle.rulebook.specs.Rules.{State, cast, parent_fits}
use Rattle.rulebook.specs.declared.VoteKind.TheVariants as vote
use Rattle.rulebook.specs.declared.Block.{Block}
use Rattle.record.specs.Layout.{ledger_of}
use Rattle.voter.proofs.LiveLaws.{casting_castable, onward, onward_none}
use Rattle.voter.proofs.OutboxLaws.{moved_is}
use Rattle.voter.specs.Outbox.{state_in}
use Rattle.settling.proofs.Spending.{B-comes}
use Rattle.rules.proofs.RuleLaws.{B-on, B-none, B-off, may_notar_lem}
use Rattle.fallbacks.proofs.UnderLaws.{under_carded, under_casting}
use Rattle.rules.proofs.rule_b.Goals as goal

pub parent_fits-requires : goal.parent_fits-requires
parent_fits-requires c = search (rules, under_carded)

pub cast_vote-requires : goal.cast_vote-requires
cast_vote-requires c = casting_castable (under_casting c.requires)

pub returns-then-parent_fits : goal.returns-then-parent_fits
returns-then-parent_fits c =
    let a = c.args in let p = c.requires in let o : State = state_in a.rec.now a.outbox.now a.at in let s : ℕ = a.s.0 in let l = ledger_of a.rec.now in
    let ec = c.own_cell-c.ensures in
    let eb = c.load_block-b.ensures in
    let e = may_notar_lem c.own_cell-c.result (own_cell l s) c.load_block-b.result (first_block l s) c.no_initial.result true ec eb c.no_initial.ensures c.if-no_initial-b.true in
    let f = ap (λ (x : Block). parent_fits l s (is_first s) x) (sym eb) ∙ sym c.parent_fits.ensures ∙ c.if-parent_fits.true in
    let q = c.cast_vote in
    onward p.under.live.live q.auto.rec q.auto.outbox (moved_is q.ensures (ap (λ (x : Block). cast o s vote.Notar x.number) eb ∙ sym (B-on o s e f))) (B-comes o p.under.live.live.sound s p.under.live.low p.under.live.high p.votes)

pub returns-else-parent_fits : goal.returns-else-parent_fits
returns-else-parent_fits c =
    let a = c.args in let p = c.requires in let o : State = state_in a.rec.now a.outbox.now a.at in let s : ℕ = a.s.0 in let l = ledger_of a.rec.now in
    let ec = c.own_cell-c.ensures in
    let eb = c.load_block-b.ensures in
    let e = may_notar_lem c.own_cell-c.result (own_cell l s) c.load_block-b.result (first_block l s) c.no_initial.result true ec eb c.no_initial.ensures c.if-no_initial-b.true in
    let f = ap (λ (x : Block). parent_fits l s (is_first s) x) (sym eb) ∙ sym c.parent_fits.ensures ∙ c.if-parent_fits.false in
    onward_none p.under.live.live (sym (B-none o s e f))

pub returns-else-no_initial-b : goal.returns-else-no_initial-b
returns-else-no_initial-b c =
    let a = c.args in let p = c.requires in let o : State = state_in a.rec.now a.outbox.now a.at in let s : ℕ = a.s.0 in let l = ledger_of a.rec.now in
    let ec = c.own_cell-c.ensures in
    let eb = c.load_block-b.ensures in
    onward_none p.under.live.live (sym (B-off o s (may_notar_lem c.own_cell-c.result (own_cell l s) c.load_block-b.result (first_block l s) c.no_initial.result false ec eb c.no_initial.ensures c.if-no_initial-b.false)))
