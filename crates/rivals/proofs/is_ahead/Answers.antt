-- By the lower number.
use mathlib.Core.Path.{◌∙◌, ap}
use Prim.Native.Nat.{ℕ}
use native.Mathlib.Omega.{arith}
use lib.Dec.{ltb}
use Rattle.rivals.proofs.Groups.{ahead_lower, ahead_higher}
use Rattle.rivals.proofs.is_ahead.Goals as goal
use Rattle.rivals.proofs.is_ahead.Goals.{then-m-b, else-m-b}

pub overflow_add-most : goal.overflow_add-most
overflow_add-most c = omega (arith, c.requires)

pub returns : goal.returns
returns c =
    let a = c.args in
    elim c.if-m-b.branch [
      | then-m-b k ↦ ap (λ (x : ℕ). ltb a.v.0 x) k.most-is ∙ ahead_lower a.m a.w.0 a.b a.v.0 k.if-m-b.true
      | else-m-b k ↦ ap (λ (x : ℕ). ltb a.v.0 x) k.most-is ∙ ahead_higher a.m a.w.0 a.b a.v.0 k.if-m-b.false
    ]
