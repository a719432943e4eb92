-- Two digits below 16 make a byte.
use mathlib.Core.Path.{◌∙◌, sym}
use native.Mathlib.Omega.{arith}
use Rattle.hex_bytes.proofs.Pairs.{below_some, high_none, low_none, both_some}
use Rattle.hex_bytes.proofs.hex_pair.Goals as goal

pub returns-in_err-high : goal.returns-in_err-high
returns-in_err-high c = c.from_residual.ensures ∙ high_none _ (sym c.in_err-high.was ∙ c.hex_digit.ensures)

pub returns-in_err-low : goal.returns-in_err-low
returns-in_err-low c =
    c.from_residual-in_err-low.ensures ∙ low_none _ _ (sym c.in_ok-high.was ∙ c.hex_digit.ensures) (sym c.in_err-low.was ∙ c.hex_digit-2.ensures)

pub overflow_mul-result : goal.overflow_mul-result
overflow_mul-result c = let h = below_some 16 _ _ (sym c.in_ok-high.was ∙ c.hex_digit.ensures) in record { fits = omega arith }

pub overflow_add-result : goal.overflow_add-result
overflow_add-result c =
    let h = below_some 16 _ _ (sym c.in_ok-high.was ∙ c.hex_digit.ensures) in
    let l = below_some 16 _ _ (sym c.in_ok-low.was ∙ c.hex_digit-2.ensures) in record { fits = omega arith }

pub returns : goal.returns
returns c = both_some _ _ _ (sym c.in_ok-high.was ∙ c.hex_digit.ensures) (sym c.in_ok-low.was ∙ c.hex_digit-2.ensures)
