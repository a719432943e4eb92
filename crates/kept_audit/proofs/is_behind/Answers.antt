-- Past the first place of kind 3, at the loop's head, the places of kind 3 behind it are for other blocks.
use mathlib.Core.Path.{◌≡◌, subst}
use mathlib.Core.Bool.{true}
use Prim.Native.Nat.{ℕ, ◌-◌}
use native.Mathlib.Omega.{arith}
use Rattle.rulebook.specs.Ledger.{certificates_at}
use Rattle.record.specs.Layout.{ledger_of}
use Rattle.kept_audit.proofs.Laws.{apart_to, behind_free, past_first, apart_none, apart_more, behind_repeat, behind_apart}
use Rattle.kept_audit.proofs.is_behind.Goals as goal

pub returns-then-not-kept-n : goal.returns-then-not-kept-n
returns-then-not-kept-n c =
    let a = c.args in
    behind_free (certificates_at (ledger_of a.rec.now) a.s.0) a.n _ c.requires.asked (c.if-not-kept-n.true)

pub block_at-block-requires : goal.block_at-block-requires
block_at-block-requires c = c.requires.place

pub loop-m-init : goal.loop-m-init
loop-m-init c =
    let a = c.args in (
      omega arith,
      (
        omega (
          arith,
          ((let a = c.args in
              past_first (certificates_at (ledger_of a.rec.now) a.s.0) a.n _ c.requires.asked (c.if-not-kept-n.false))).1,
        ),
        apart_none (certificates_at (ledger_of a.rec.now) a.s.0) a.n,
      ),
    )

pub block_at-requires : goal.block_at-requires
block_at-requires c =
    let p = c.requires.place in record { long = p.long; slot = p.slot; place = omega (arith, p.place) }

pub returns-then-block_at-block : goal.returns-then-block_at-block
returns-then-block_at-block c =
    let a = c.args in
    let k = c.loop-m in
    behind_repeat (certificates_at (ledger_of a.rec.now) a.s.0) a.n k.m _ _ ((let a = c.args in
    past_first (certificates_at (ledger_of a.rec.now) a.s.0) a.n _ c.requires.asked (c.if-not-kept-n.false))).0 k.invariant.0 (omega arith)
    c.block_at.ensures c.block_at-block.ensures c.if-block_at-block.true

pub loop-m-preserved : goal.loop-m-preserved
loop-m-preserved c =
    let a = c.args in
    let k = c.loop-m in
    let qs = certificates_at (ledger_of a.rec.now) a.s.0 in
    (omega arith, (omega arith, apart_more qs a.n k.m _ _ k.invariant.1.1 c.block_at.ensures c.block_at-block.ensures c.if-block_at-block.false))

pub returns : goal.returns
returns c =
    let a = c.args in
    let p = (let a = c.args in
    past_first (certificates_at (ledger_of a.rec.now) a.s.0) a.n _ c.requires.asked (c.if-not-kept-n.false)) in
    let qs = certificates_at (ledger_of a.rec.now) a.s.0 in
    let e : c.loop-m.m ≡ a.n = omega arith in
    behind_apart qs a.n _ (c.requires.front p.1) p.0 (subst (λ (m : ℕ). apart_to qs a.n m ≡ true) e c.loop-m.invariant.1.1)
