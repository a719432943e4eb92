-- The walk as a recursion over slots: each call is for a lower slot. What it tells is what one step of the walk tells, and then the walk
-- from the parent's slot.
use mathlib.Core.Path.{◌≡◌, ◌∙◌, ap, sym, subst}
use Prim.Native.Nat.{ℕ, ◌<◌}
use native.Mathlib.Omega.{arith}
use borrow.Author.Tests.{eq-eqb, ne_eqb}
use Rattle.rulebook.specs.Ledger.{row_at, blocks_at}
use Rattle.rulebook.specs.Rules.{State, find_block, rule_g}
use Rattle.record.specs.Layout.{ledger_of}
use Rattle.voter.proofs.LiveLaws.{onward_none, onward_is, onward_then}
use Rattle.voter.specs.Outbox.{state_in}
use Rattle.finality.proofs.FinalLaws.{walk_to_lem, G-none, G-halts, G-stops, G-on}
use Rattle.finality.proofs.+rule_g.Goals as goal

pub returns-then-f-eq0 : goal.returns-then-f-eq0
returns-then-f-eq0 t c =
    let a = c.args in
    let p = c.requires in
    let o : State = state_in a.rec.now a.outbox.now a.at in
    onward_none p.live (sym (G-none o a.s.0 p.low (sym c.final_block-f.ensures ∙ c.if-f-eq0.true)))

pub returns-then-p-s : goal.returns-then-p-s
returns-then-p-s t c =
    let a = c.args in
    let p = c.requires in
    let o : State = state_in a.rec.now a.outbox.now a.at in
    let k = c.find_block-k.result in
    let found = c.find_block-k.ensures ∙ ap (λ (f : ℕ). find_block f (blocks_at o.ledger a.s.0)) c.final_block-f.ensures in
    onward_none p.live (sym (G-halts o a.s.0 p.low k found c.if-p-s.true))

pub tell_final-made-requires : goal.tell_final-made-requires
tell_final-made-requires t c =
    let a = c.args in
    let p = c.requires in
    let o : State = state_in a.rec.now a.outbox.now a.at in
    let k = c.find_block-k.result in
    let found = c.find_block-k.ensures ∙ ap (λ (f : ℕ). find_block f (blocks_at o.ledger a.s.0)) c.final_block-f.ensures in
    let w = walk_to_lem o a.s.0 p.low k found p.live.sound p.high c.if-p-s.false in
    record { live = record { live = p.live; low = w.low; high = w.high }; block = w.number }

pub final_block-requires : goal.final_block-requires
final_block-requires t c =
    let a = c.args in
    let p = c.requires in
    let o : State = state_in a.rec.now a.outbox.now a.at in
    let k = c.find_block-k.result in
    let found = c.find_block-k.ensures ∙ ap (λ (f : ℕ). find_block f (blocks_at o.ledger a.s.0)) c.final_block-f.ensures in
    let w = walk_to_lem o a.s.0 p.low k found p.live.sound p.high c.if-p-s.false in
    record { long = c.tell_final-made.ensures.live.long; slot = omega (arith, w.high) }

pub returns-then-final_block-k : goal.returns-then-final_block-k
returns-then-final_block-k t c =
    let a = c.args in
    let p = c.requires in
    let o : State = state_in a.rec.now a.outbox.now a.at in
    let k = c.find_block-k.result in
    let found = c.find_block-k.ensures ∙ ap (λ (f : ℕ). find_block f (blocks_at o.ledger a.s.0)) c.final_block-f.ensures in
    let told = c.tell_final-made.ensures in
    let final = c.final_block.ensures ∙ ap (λ (q : State). (row_at q.ledger k.parentslot.0).final) told.moved.is in
    onward_is told (sym (G-stops o a.s.0 p.low k found c.if-p-s.false (ne_eqb _ k.parent (λ z. c.if-final_block-k.true (final ∙ z)))))

pub rule_g-requires : goal.rule_g-requires
rule_g-requires t c =
    let a = c.args in
    let p = c.requires in
    let o : State = state_in a.rec.now a.outbox.now a.at in
    let k = c.find_block-k.result in
    let found = c.find_block-k.ensures ∙ ap (λ (f : ℕ). find_block f (blocks_at o.ledger a.s.0)) c.final_block-f.ensures in
    let w = walk_to_lem o a.s.0 p.low k found p.live.sound p.high c.if-p-s.false in (
      subst (λ (j : ℕ). k.parentslot.0 < j) c.decreases w.lower,
      record { live = c.tell_final-made.ensures.live; low = w.low; high = w.high },
    )

pub returns : goal.returns
returns t c =
    let a = c.args in
    let p = c.requires in
    let o : State = state_in a.rec.now a.outbox.now a.at in
    let k = c.find_block-k.result in
    let found = c.find_block-k.ensures ∙ ap (λ (f : ℕ). find_block f (blocks_at o.ledger a.s.0)) c.final_block-f.ensures in
    let told = c.tell_final-made.ensures in
    let final = c.final_block.ensures ∙ ap (λ (q : State). (row_at q.ledger k.parentslot.0).final) told.moved.is in
    onward_is (onward_then (λ q. rule_g q k.parentslot.0) told c.rule_g.ensures)
    (sym (G-on o a.s.0 p.low k found c.if-p-s.false (eq-eqb _ k.parent (sym final ∙ c.if-final_block-k.false))))
