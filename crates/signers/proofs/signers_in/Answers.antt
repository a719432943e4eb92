-- Each word names its own nodes.
use mathlib.Core.Path.{refl}
use native.Mathlib.Omega.{arith}
use lib.ListN.{length}
use Rattle.rulebook.specs.Ledger.{cell_at}
use Rattle.record.specs.Layout.{ledger_of}
use Rattle.signers.specs.Masks.{in_mask}
use Rattle.signers.proofs.Signers.{filled_none, filled_more, filled_done}
use Rattle.signers.proofs.signers_in.Goals as goal

pub loop-i-init : goal.loop-i-init
loop-i-init c =
    let a = c.args in
    (refl, c.requires.1, filled_none (λ n. in_mask a.which a.kind a.b (cell_at (ledger_of a.rec.now) a.s.0 n)) a.nodes a.mask.now)

pub overflow_mul-i : goal.overflow_mul-i
overflow_mul-i c = omega (arith, c.requires.1.few)

pub signers_from-requires : goal.signers_from-requires
signers_from-requires c = c.requires.0

pub bounds-mask-i : goal.bounds-mask-i
bounds-mask-i c = omega (arith, c.loop-i.invariant.2.long)

pub loop-i-preserved : goal.loop-i-preserved
loop-i-preserved c =
    let a = c.args in
    let l = c.loop-i in
    (refl, l.invariant.1, filled_more (λ n. in_mask a.which a.kind a.b (cell_at (ledger_of a.rec.now) a.s.0 n)) a.nodes (length a.mask.now) l.mask l.i _ l.invariant.2 (omega arith) c.signers_from.ensures)

pub returns : goal.returns
returns c =
    let a = c.args in
    let l = c.loop-i in
    filled_done (λ n. in_mask a.which a.kind a.b (cell_at (ledger_of a.rec.now) a.s.0 n)) a.nodes (length a.mask.now) l.mask l.i l.invariant.2 (omega arith) l.invariant.1.long
