-- What the test of two records tells. Assumes nothing.
use Rattle.std.specs.Prelude.{⊤, Result, Ok, Err}
use mathlib.Core.Path.{◌≡◌, refl, subst}
use mathlib.Core.Bool.{Bool, true, false}
use mathlib.Core.List.{List}
use Prim.Native.Nat.{ℕ}
use native.Mathlib.Omega.{arith}
use Rattle.rulebook.specs.Tools.{whenever}
use Rattle.soundness.specs.Sound.{sound_words}
use Rattle.difference_lines.specs.declared.Side.{Side}
use Rattle.difference_lines.specs.declared.Side.TheVariants as side
use Rattle.differences.specs.Both.{both_sound}
use Rattle.differences.specs.Lent.{Sounds}

abbrev sides : Bool → Bool → Result ⊤ Side
sides a b = whenever a (λ _. whenever b (λ _. Ok (tt {0})) (Err side.Second)) (Err side.First)

-- ---- the two tests, by what they answer

both_fine : (a b : Bool) → sides a b ≡ Ok (tt {0}) → (a ≡ true) × (b ≡ true)
unfolding whenever
both_fine true true e = (refl, refl)
both_fine true false e = let z : ◌≡◌ {A = ℕ} 0 1 = cc in absurd (omega arith)
both_fine false b e = let z : ◌≡◌ {A = ℕ} 0 1 = cc in absurd (omega arith)

one_bad : (X : Side → Type 0) (a b : Bool) (x : Side) → sides a b ≡ Err x → (a ≡ false → X side.First) → (a ≡ true → b ≡ false → X side.Second) → X x
unfolding whenever
one_bad X true true x e f g = let z : ◌≡◌ {A = ℕ} 0 1 = cc in absurd (omega arith)
one_bad X true false x e f g = let d : side.Second ≡ x = cc in subst X d (g refl refl)
one_bad X false b x e f g = let d : side.First ≡ x = cc in subst X d (f refl)

module _ (one two : List ℕ) where
  pub both_sounds : both_sound one two ≡ Ok (tt {0}) → Sounds one two
  unfolding both_sound
  both_sounds e =
      let k = both_fine (sound_words one) (sound_words two) e in
      record { first = k.0; second = k.1 }

  pub side_unsound : (X : Side → Type 0) (x : Side) → both_sound one two ≡ Err x → (sound_words one ≡ false → X side.First)
      → (sound_words one ≡ true → sound_words two ≡ false → X side.Second) → X x
  unfolding both_sound
  side_unsound X x e f g = one_bad X (sound_words one) (sound_words two) x e f g
