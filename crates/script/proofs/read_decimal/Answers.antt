-- An empty word is no number; else what is read so far and the digits ahead make the whole.
use mathlib.Core.Path.{sym, ◌∙◌}
use native.Mathlib.Omega.{arith}
use borrow.Author.Tests.{eqb-true, eqb-false}
use Rattle.script.proofs.Digits.{decimal_none, decimal_start, decimal_end, decimal_other, decimal_large, decimal_more}
use Rattle.script.proofs.read_decimal.Goals as goal

pub returns-then-is_empty : goal.returns-then-is_empty
returns-then-is_empty c = decimal_none _ (eqb-true _ 0 (sym c.is_empty.ensures ∙ c.if-is_empty.true))

pub loop-b-init : goal.loop-b-init
loop-b-init c = decimal_start _ (eqb-false _ 0 (sym c.is_empty.ensures ∙ c.if-is_empty.false))

pub returns-then-not-is_ascii_digit : goal.returns-then-not-is_ascii_digit
returns-then-not-is_ascii_digit c =
    sym (c.loop-b.invariant ∙ decimal_other _ _ c.loop-b.v c.loop-b-test.true (sym c.is_ascii_digit.ensures.value ∙ c.if-not-is_ascii_digit.true))

pub returns-in_err-tens : goal.returns-in_err-tens
returns-in_err-tens c =
    let f = c.in_err-tens.ensures in
    c.from_residual.ensures ∙ sym (c.loop-b.invariant ∙ decimal_large _ _ c.loop-b.v c.loop-b-test.true (sym c.is_ascii_digit.ensures.value ∙ c.if-not-is_ascii_digit.false) (λ h. f (omega arith)))

pub returns-in_err-v : goal.returns-in_err-v
returns-in_err-v c =
    let m = c.in_ok-tens.ensures in
    let f = c.in_err-v.ensures in
    let d = c.from-digit.ensures in
    c.from_residual-in_err-v.ensures ∙ sym (c.loop-b.invariant ∙ decimal_large _ _ c.loop-b.v c.loop-b-test.true (sym c.is_ascii_digit.ensures.value ∙ c.if-not-is_ascii_digit.false) (λ h. f (omega arith)))

pub loop-b-preserved : goal.loop-b-preserved
loop-b-preserved c =
    let m = c.in_ok-tens.ensures in
    let a = c.in_ok-v.ensures in
    let d = c.from-digit.ensures in
    c.loop-b.invariant ∙ decimal_more _ _ c.loop-b.v c.loop-b-test.true _ (sym c.is_ascii_digit.ensures.value ∙ c.if-not-is_ascii_digit.false) (omega arith) (omega arith)

pub returns : goal.returns
returns c = sym (c.loop-b.invariant ∙ decimal_end _ c.loop-b.b-index c.loop-b.v c.loop-b-test.false)
