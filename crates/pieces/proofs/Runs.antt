-- Loops over all words or bytes: tested for zeros, put to zero, copied. Assumes nothing.
use mathlib.Core.Path.{◌≡◌, refl, sym, ap, ◌∙◌}
use mathlib.Core.Bool.{Bool, true, false, ◌&&◌}
use mathlib.Core.List.{List, [], ◌∷◌}
use Prim.Native.Nat.{ℕ, zero, suc, ◌<◌}
use native.Mathlib.Omega.{arith}
use lib.ListN.{length, get_or, replicate, length-replicate, get_or-replicate}
use lib.Dec.{eqb}
use lib.Seq.{ext_get_or}
use borrow.Author.Tests.{eq-eqb, eqb-true}
use Rattle.std.specs.List.{fold, list_all}
use Rattle.rulebook.specs.Tools.{all_to}
use Rattle.rulebook.specs.Ledger.{none}
use Rattle.rule_laws.proofs.ToolLaws.{all_none, all_at, all_each}
use Rattle.pieces.specs.State.{blank}

and_true : (b : Bool) → (true && b) ≡ (b && true)
and_true true = refl
and_true false = refl

and_assoc : (a b c : Bool) → ((a && b) && c) ≡ (a && (b && c))
and_assoc true b c = refl
and_assoc false b c = refl

-- The first test, and then the rest.
all_first : (n : ℕ) (f : ℕ → Bool) → all_to (suc n) f ≡ (f 0 && all_to n (λ i. f (suc i)))
unfolding all_to
all_first zero f = and_true (f 0)
all_first (suc n) f =
    ap (λ (b : Bool). b && f (suc n)) (all_first n f) ∙ and_assoc (f 0) (all_to n (λ i. f (suc i))) (f (suc n))

-- Tests that are joined one after the other, and all of them.
joined_from : {X : Type 0} → (f : X → Bool) (xs : List X) (a : Bool) → fold (λ (t : Bool) (x : X). t && f x) a xs ≡ a && list_all f xs
joined_from f [] a = and_true a
joined_from f (x ∷ xs) a = joined_from f xs (a && f x) ∙ and_assoc a (f x) (list_all f xs)

pub joined_all : {X : Type 0} → (f : X → Bool) (xs : List X) → fold (λ (t : Bool) (x : X). t && f x) true xs ≡ list_all f xs
joined_all f xs = joined_from f xs true

-- Nothing but zeros, as it is looked for one after the other.
pub all_blank : (ws : List ℕ) → list_all (λ w. eqb w 0) ws ≡ blank ws
unfolding blank
all_blank [] = sym (all_none (λ i. none (get_or {A = ℕ} [] i 0)))
all_blank (w ∷ ws) =
    let e : blank ws ≡ all_to (length ws) (λ i. none (get_or ws i 0)) = refl in
    ap (λ (b : Bool). eqb w 0 && b) (all_blank ws ∙ e) ∙ sym (all_first (length ws) (λ i. none (get_or (w ∷ ws) i 0)))

pub zeros_all : (ws : List ℕ) (n : ℕ) → length ws ≡ n → ((i : ℕ) → i < n → get_or ws i 0 ≡ 0) → ws ≡ replicate n 0
zeros_all ws n h e =
    ext_get_or 0 ws (replicate n 0) (h ∙ sym (length-replicate n 0)) (λ i l. e i (omega arith) ∙ sym (get_or-replicate n i 0 0 (omega arith)))

-- ---- what a test for zeros tells

-- Zeros are blank, and only zeros are.
pub zeros_blank : (n : ℕ) → blank (replicate n 0) ≡ true
unfolding blank
zeros_blank n =
    all_each (length (replicate n 0)) (λ i. none (get_or (replicate n 0) i 0))
    (λ i h. eq-eqb (get_or (replicate n 0) i 0) 0 (get_or-replicate n i 0 0 (omega (arith, length-replicate {A = ℕ} n 0))))

pub blank_zeros : (ws : List ℕ) → blank ws ≡ true → ws ≡ replicate (length ws) 0
unfolding blank
blank_zeros ws e =
    zeros_all ws (length ws) refl (λ i h. eqb-true (get_or ws i 0) 0 (all_at (length ws) i (λ k. none (get_or ws k 0)) e h))
