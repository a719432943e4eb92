-- The words of a kept certificate's masks: what they spell, and that a mask is told by its words. Assumes nothing.
use mathlib.Core.Path.{◌≡◌, refl, ap, ap₂, ◌∙◌}
use mathlib.Core.List.{List, [], ◌∷◌}
use Prim.Native.Nat.{ℕ, zero, suc, ◌+◌, ◌*◌, ◌/◌, ◌%◌, ◌^◌, ◌<◌, ◌≤◌}
use native.Mathlib.Omega.{arith}
use lib.ListN.{length}
use Rattle.rulebook.specs.Packets.{joined}
use Rattle.record.specs.Layout.{tabulate}
use Rattle.record.specs.Spelling.{spell_mask}

-- A mask has as many words as it is to have.
pub mask_long : (w m : ℕ) → length (spell_mask w m) ≡ w
unfolding spell_mask
mask_long zero m = refl
mask_long (suc zero) m = refl
mask_long (suc (suc w)) m = ap suc (mask_long (suc w) (m / 2 ^ 64))

-- They mean it, where there is one.
pub mask_meant : (w m : ℕ) → 1 ≤ w → joined (spell_mask w m) ≡ m
unfolding spell_mask joined
mask_meant zero m h = absurd (omega arith)
mask_meant (suc zero) m h = omega arith
mask_meant (suc (suc w)) m h = omega (arith, mask_meant (suc w) (m / 2 ^ 64) (omega arith))

-- A word of 64 bits in front of others is told by the mask, and so are the others.
low_word : (x m : ℕ) → x < 2 ^ 64 → (x + 2 ^ 64 * m) % 2 ^ 64 ≡ x
low_word x m h = omega arith

high_words : (x m : ℕ) → x < 2 ^ 64 → (x + 2 ^ 64 * m) / 2 ^ 64 ≡ m
high_words x m h = omega arith

-- And words of 64 bits are those of the mask that they mean.
pub mask_spelled : (w : ℕ) (f : ℕ → ℕ) → ((j : ℕ) → f j < 2 ^ 64) → spell_mask w (joined (tabulate w f)) ≡ tabulate w f
unfolding spell_mask joined tabulate
mask_spelled zero f h = refl
mask_spelled (suc zero) f h = ap (λ (x : ℕ). x ∷ []) (let e : f zero + 2 ^ 64 * 0 ≡ f zero = omega arith in e)
mask_spelled (suc (suc w)) f h =
    let g : ℕ → ℕ = λ k. f (suc k) in
    let m : ℕ = joined (tabulate (suc w) g) in
    ap₂ (λ (x y : ℕ). x ∷ spell_mask (suc w) y) (low_word (f zero) m (h zero)) (high_words (f zero) m (h zero)) ∙ ap (λ (xs : List ℕ). f zero ∷ xs) (mask_spelled (suc w) g (λ j. h (suc j)))

-- Words that are all 0 spell the mask without a signer.
pub mask_none : (w : ℕ) (f : ℕ → ℕ) → ((j : ℕ) → f j ≡ 0) → joined (tabulate w f) ≡ 0
unfolding joined tabulate
mask_none zero f h = refl
mask_none (suc w) f h = omega (arith, h zero, mask_none w (λ k. f (suc k)) (λ j. h (suc j)))
