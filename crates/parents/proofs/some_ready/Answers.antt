-- The walk goes down from s: all slots passed hold kind 4, and none of them has a ready parent.
use mathlib.Core.Path.{◌∙◌, sym}
use Prim.Native.Nat.{◌-◌}
use native.Mathlib.Omega.{arith}
use lib.Dec.{ltb}
use borrow.Author.Tests.{ltb-true, ltb-false}
use Rattle.rule_laws.proofs.ToolLaws.{by_test}
use Rattle.record.specs.Layout.{ledger_of}
use Rattle.parents.proofs.ReadyLaws.{any_later, found_ready, cut_ready, none_more, skipped_more, end_ready, no_slots}
use Rattle.parents.proofs.some_ready.Goals as goal

pub returns-then-some_held : goal.returns-then-some_held
returns-then-some_held c =
    let a = c.args in
    let l = ledger_of a.rec.now in
    let k = c.loop-q in
    sym (found_ready l a.s.0 (k.q - 1) (omega arith) (λ i f g. k.invariant.0 i (omega arith) g)
    (any_later l (k.q - 1) (omega arith) ∙ sym c.some_held.ensures ∙ c.if-some_held.true))

pub returns-then-not-held : goal.returns-then-not-held
returns-then-not-held c =
    let a = c.args in
    let l = ledger_of a.rec.now in
    let k = c.loop-q in
    sym (cut_ready l a.s.0 (k.q - 1) (omega arith)
    (none_more l a.s.0 (k.q - 1) (omega arith) (λ i f g. k.invariant.0 i (omega arith) g) (any_later l (k.q - 1) (omega arith) ∙ sym c.some_held.ensures ∙ c.if-some_held.false) (λ i f g. k.invariant.1 i (omega arith) g))
    (sym c.held.ensures ∙ c.if-not-held.true))

pub loop-q-preserved : goal.loop-q-preserved
loop-q-preserved c =
    let a = c.args in
    let l = ledger_of a.rec.now in
    let k = c.loop-q in (
      skipped_more l (k.q - 1) a.s.0 (sym c.held.ensures ∙ c.if-not-held.false) (λ i f g. k.invariant.0 i (omega arith) g),
      none_more l a.s.0 (k.q - 1) (omega arith) (λ i f g. k.invariant.0 i (omega arith) g) (any_later l (k.q - 1) (omega arith) ∙ sym c.some_held.ensures ∙ c.if-some_held.false) (λ i f g. k.invariant.1 i (omega arith) g),
    )

pub returns : goal.returns
returns c =
    let a = c.args in
    let l = ledger_of a.rec.now in
    let k = c.loop-q in
    by_test (ltb 0 a.s.0)
    (λ e. e ∙ sym (end_ready l a.s.0 (ltb-true 0 a.s.0 e) (λ i f g. k.invariant.0 i (omega arith) g)))
    (λ e. e ∙ sym (no_slots l a.s.0 (omega (arith, ltb-false 0 a.s.0 e))))
