-- What is answered about two records is one thing.
use Rattle.std.specs.Prelude.{Result}
use mathlib.Core.Path.{◌≡◌, sym, ◌∙◌}
use mathlib.Core.List.{List}
use Prim.Native.Nat.{ℕ}
use Rattle.differences.specs.declared.DifferRefusal.{DifferRefusal}
use Rattle.differences.specs.Lent.{DifferOf}

-- The contract leaves nothing open: two results that it allows are equal.
pub differ_one : {one two list x y : List ℕ} {a b : Result ℕ DifferRefusal} → DifferOf one two list a x → DifferOf one two list b y → (a ≡ b) × (x ≡ y)
differ_one p q = (p.answered ∙ sym q.answered, p.listed ∙ sym q.listed)
