-- At the loop's head the rows behind it pass.
use mathlib.Core.Bool.{true}
use mathlib.Core.Path.{◌∙◌, sym}
use Prim.Native.Nat.{◌-◌}
use native.Mathlib.Omega.{arith}
use Rattle.rule_laws.proofs.ToolLaws.{all_none}
use Rattle.record.specs.Layout.{ledger_of}
use Rattle.soundness.specs.Sound.{row_passes}
use Rattle.soundness.proofs.Laws.{all_step, all_done, all_off}
use Rattle.soundness.proofs.Blank.{rows_passed}
use Rattle.soundness.proofs.rows_fit.Goals as goal

pub loop-i-init : goal.loop-i-init
loop-i-init c = (omega arith, sym (all_none _))

pub row_passes-requires : goal.row_passes-requires
row_passes-requires c = record { headed = c.requires; slot = omega arith }

pub returns-then-not-row_passes : goal.returns-then-not-row_passes
returns-then-not-row_passes c =
    let l = ledger_of c.args.rec.now in
    let k = c.loop-i in
    all_off k.i 17 (row_passes l) (omega arith) (sym c.row_passes.ensures ∙ c.if-not-row_passes.true) ∙ rows_passed l

pub loop-i-preserved : goal.loop-i-preserved
loop-i-preserved c =
    let l = ledger_of c.args.rec.now in
    let k = c.loop-i in
    (omega arith, sym (c.if-not-row_passes.false) ∙ all_step k.i (row_passes l) true _ k.invariant.1 c.row_passes.ensures)

pub returns : goal.returns
returns c =
    let l = ledger_of c.args.rec.now in
    all_done c.loop-i.i 17 (row_passes l) _ c.loop-i.invariant.1 (omega arith) ∙ rows_passed l
