-- What is missing to the threshold: five times 2^48 and four more fit 64 bits.
use native.Mathlib.Omega.{arith}
use native.Mathlib.Nat.{mul-le-mul_right}
use borrow.Author.Rules.{rules}
use Rattle.rulebook.specs.Weights.{missing}
use Rattle.thresholds.proofs.Threshold.missing.Tie as tie
use Rattle.thresholds.proofs.Threshold.missing.Goals as goal

pub overflow_mul-needed : goal.overflow_mul-needed
overflow_mul-needed c = let h = mul-le-mul_right c.args.t.0 c.requires.fifths in omega arith

pub overflow_add-needed : goal.overflow_add-needed
overflow_add-needed c = let h = mul-le-mul_right c.args.t.0 c.requires.fifths in omega arith

pub returns-then-needed-w : goal.returns-then-needed-w
unfolding missing
returns-then-needed-w c = search rules

pub returns : goal.returns
unfolding missing
returns c = search rules
