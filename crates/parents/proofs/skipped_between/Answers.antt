-- The loop goes up as long as slots hold kind 4.
use mathlib.Core.Path.{◌∙◌, sym}
use Prim.Native.Nat.{◌+◌}
use native.Mathlib.Omega.{arith}
use Rattle.record.specs.Layout.{ledger_of}
use Rattle.parents.proofs.ReadyLaws.{skipped_between_lem, between_skipped, skipped_up}
use Rattle.parents.proofs.skipped_between.Goals as goal

pub loop-q-init : goal.loop-q-init
loop-q-init c = (omega arith, omega arith, λ i a b. absurd (omega arith))

pub returns-then-not-held : goal.returns-then-not-held
returns-then-not-held c =
    let a = c.args in
    sym (between_skipped (ledger_of a.rec.now) a.p.0 a.s.0 c.loop-q.q (omega arith) (omega arith) (sym c.held.ensures ∙ c.if-not-held.true))

pub loop-q-preserved : goal.loop-q-preserved
loop-q-preserved c =
    let a = c.args in
    (omega arith, omega arith, skipped_up (ledger_of a.rec.now) (a.p.0 + 1) c.loop-q.q c.loop-q.invariant.2 (sym c.held.ensures ∙ c.if-not-held.false))

pub returns : goal.returns
returns c =
    let a = c.args in
    sym (skipped_between_lem (ledger_of a.rec.now) a.p.0 a.s.0 (λ i f g. c.loop-q.invariant.2 i (omega arith) (omega arith)))
