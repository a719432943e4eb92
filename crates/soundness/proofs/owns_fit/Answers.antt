-- At the loop's head the own fallbacks of the slots behind it lean on enough.
use mathlib.Core.Bool.{true}
use mathlib.Core.Path.{◌∙◌, ap, sym}
use Prim.Native.Nat.{suc, ◌-◌}
use native.Mathlib.Numerals.{add-one}
use native.Mathlib.Omega.{arith}
use Rattle.rule_laws.proofs.ToolLaws.{all_none}
use Rattle.record.specs.Layout.{ledger_of}
use Rattle.rulebook.specs.WellFormed.{own_fits}
use Rattle.soundness.proofs.Laws.{all_step, all_done, all_off, standing_backs}
use Rattle.soundness.proofs.owns_fit.Goals as goal

pub loop-i-init : goal.loop-i-init
loop-i-init c = (omega arith, sym (all_none _))

pub own_fits-requires : goal.own_fits-requires
own_fits-requires c = standing_backs c.args.rec.now c.requires _ (omega arith) (omega arith)

pub returns-then-not-own_fits : goal.returns-then-not-own_fits
returns-then-not-own_fits c =
    let l = ledger_of c.args.rec.now in
    let k = c.loop-i in
    all_off k.i 16 (λ n. own_fits l (suc n)) (omega arith) (sym (c.own_fits.ensures ∙ ap (own_fits l) (add-one k.i)) ∙ c.if-not-own_fits.true)

pub loop-i-preserved : goal.loop-i-preserved
loop-i-preserved c =
    let l = ledger_of c.args.rec.now in
    let k = c.loop-i in
    (omega arith, sym (c.if-not-own_fits.false) ∙ all_step k.i (λ n. own_fits l (suc n)) true _ k.invariant.1 (c.own_fits.ensures ∙ ap (own_fits l) (add-one k.i)))

pub returns : goal.returns
returns c = all_done c.loop-i.i 16 _ _ c.loop-i.invariant.1 (omega arith)
