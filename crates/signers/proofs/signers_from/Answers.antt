-- The loop takes one node a turn, by the bit that its cell passes for.
use mathlib.Core.Path.{◌≡◌, ◌∙◌, ap}
use mathlib.Core.Bool.{Bool}
use Prim.Native.Nat.{ℕ, ◌+◌, ◌-◌, min}
use native.Mathlib.Omega.{arith}
use Rattle.rulebook.specs.Ledger.{cell_at}
use Rattle.rulebook.specs.Packets.{mask_of}
use Rattle.rule_laws.proofs.MaskLaws.{mask_none}
use Rattle.record.specs.Layout.{ledger_of}
use Rattle.signers.specs.Masks.{in_mask}
use Rattle.signers.proofs.Signers.{signer_in, signer_out}
use Rattle.signers.proofs.signers_from.Goals as goal
use Rattle.signers.proofs.signers_from.Goals.{then-in_mask, else-in_mask}

pub loop-j-init : goal.loop-j-init
loop-j-init c =
    let a = c.args in
    (c.nodes_from-upto.ensures, omega arith, mask_none (λ i. in_mask a.which a.kind a.b (cell_at (ledger_of a.rec.now) a.s.0 (a.from.0 + i))))

pub overflow_add-from : goal.overflow_add-from
overflow_add-from c = let l = c.loop-j in omega (arith, l.invariant.0, c.requires.few)

pub load_cell-c-requires : goal.load_cell-c-requires
load_cell-c-requires c =
    let l = c.loop-j in
    let k = c.requires in
    record { long = k.long; slot = k.slot; node = omega (arith, l.invariant.0, k.placed) }

pub overflow_shl-word : goal.overflow_shl-word
overflow_shl-word c = let l = c.loop-j in omega (arith, l.invariant.0)

pub loop-j-preserved : goal.loop-j-preserved
loop-j-preserved c =
    let a = c.args in
    let l = c.loop-j in
    let who : ℕ → Bool = λ i. in_mask a.which a.kind a.b (cell_at (ledger_of a.rec.now) a.s.0 (a.from.0 + i)) in
    let found : c.in_mask.result ≡ who l.j = c.in_mask.ensures ∙ ap (in_mask a.which a.kind a.b) c.load_cell-c.ensures in
    elim c.if-in_mask.branch [
      | then-in_mask w ↦ (l.invariant.0, omega arith, w.word-is ∙ signer_in who l.j l.word c.in_mask.result (omega (arith, l.invariant.0)) l.invariant.2 found w.if-in_mask.true)
      | else-in_mask w ↦ (l.invariant.0, omega arith, w.word-is ∙ signer_out who l.j l.word c.in_mask.result l.invariant.2 found w.if-in_mask.false)
    ]

pub returns : goal.returns
returns c =
    let a = c.args in
    let l = c.loop-j in
    let e : l.j ≡ min 64 (a.nodes - a.from.0) = omega (arith, l.invariant.0, l.invariant.1) in
    l.invariant.2 ∙ ap (mask_of (λ i. in_mask a.which a.kind a.b (cell_at (ledger_of a.rec.now) a.s.0 (a.from.0 + i)))) e
