-- The three ranges of digits, first to last.
use native.Mathlib.Omega.{arith}
use Rattle.hex_bytes.proofs.Pairs.{low_digit, upper_digit, lower_digit, no_digit}
use Rattle.hex_bytes.proofs.hex_digit.Goals as goal

pub returns-in-48-to-57 : goal.returns-in-48-to-57
returns-in-48-to-57 c = low_digit c.args.b (omega arith) (omega arith)

pub returns-in-65-to-70 : goal.returns-in-65-to-70
returns-in-65-to-70 c = upper_digit c.args.b (omega arith) (omega arith)

pub returns-in-97-to-102 : goal.returns-in-97-to-102
returns-in-97-to-102 c = lower_digit c.args.b (omega arith) (omega arith)

pub returns-in_default : goal.returns-in_default
returns-in_default c = no_digit c.args.b (λ h. omega arith) (λ h. omega arith) (λ h. omega arith)

pub returns-in_default-2 : goal.returns-in_default-2
returns-in_default-2 c = no_digit c.args.b (λ h. omega arith) (λ h. omega arith) (λ h. omega arith)

pub returns-in_default-3 : goal.returns-in_default-3
returns-in_default-3 c = no_digit c.args.b (λ h. omega arith) (λ h. omega arith) (λ h. omega arith)

pub returns-in_default-4 : goal.returns-in_default-4
returns-in_default-4 c = no_digit c.args.b (λ h. omega arith) (λ h. omega arith) (λ h. omega arith)
