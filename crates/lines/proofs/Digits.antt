-- One turn of the writing of digits. Assumes nothing.
use mathlib.Core.Path.{◌≡◌, refl, sym, ap, ◌∙◌}
use mathlib.Core.Bool.{Bool, true, false}
use mathlib.Core.List.{List, [], ◌∷◌, ◌++◌}
use Prim.Native.Nat.{ℕ, zero, suc, ◌+◌, ◌/◌, ◌%◌, ◌≤◌, ◌<◌}
use native.Mathlib.Omega.{arith}
use lib.Dec.{leb, ltb}
use borrow.Author.Tests.{le-leb, lt-leb, leb-true, leb-false, lt-ltb, le-ltb}
use Rattle.rule_laws.proofs.ToolLaws.{given_on, given_off, choose_on, choose_off}
use Rattle.lines.specs.Text.{glyph, digits_of, decimal}

pub glyph_low : (d : ℕ) → d < 10 → 48 + d ≡ glyph d
unfolding glyph
glyph_low d h = sym (choose_on (ltb d 10) (48 + d) (55 + d) (lt-ltb d 10 h))

pub glyph_high : (d : ℕ) → 10 ≤ d → 55 + d ≡ glyph d
unfolding glyph
glyph_high d h = sym (choose_off (ltb d 10) (48 + d) (55 + d) (le-ltb d 10 h))

digits_small : (f n : ℕ) → n < 10 → digits_of f n ≡ glyph n ∷ []
unfolding digits_of
digits_small zero n h = refl
digits_small (suc f) n h = given_off (leb 10 n) (glyph n ∷ []) _ (lt-leb 10 n h)

digits_more : (f n : ℕ) → 10 ≤ n → digits_of (suc f) n ≡ digits_of f (n / 10) ++ (glyph (n % 10) ∷ [])
unfolding digits_of
digits_more f n h = given_on (leb 10 n) (glyph n ∷ []) _ (le-leb 10 n h)

-- Any bound that suffices gives the same digits.
digits_same : (f g n : ℕ) → n ≤ f → n ≤ g → digits_of f n ≡ digits_of g n
digits_same zero g n h k = digits_small 0 n (omega arith) ∙ sym (digits_small g n (omega arith))
digits_same (suc f) zero n h k = digits_small (suc f) n (omega arith) ∙ sym (digits_small 0 n (omega arith))
digits_same (suc f) (suc g) n h k = go (digits_same f g) (leb 10 n) refl
  where
    go : ((m : ℕ) → m ≤ f → m ≤ g → digits_of f m ≡ digits_of g m) → (t : Bool) → leb 10 n ≡ t → digits_of (suc f) n ≡ digits_of (suc g) n
    go ih true e =
        let l : 10 ≤ n = leb-true 10 n e in
        digits_more f n l ∙ ap (λ (x : List ℕ). x ++ (glyph (n % 10) ∷ [])) (ih (n / 10) (omega arith) (omega arith)) ∙ sym (digits_more g n l)
    go ih false e =
        let l : n < 10 = leb-false 10 n e in
        digits_small (suc f) n l ∙ sym (digits_small (suc g) n l)

pub decimal_small : (n : ℕ) → n < 10 → glyph n ∷ [] ≡ decimal n
unfolding decimal
decimal_small n h = sym (digits_small n n h)

pub decimal_more : (n : ℕ) → 10 ≤ n → decimal (n / 10) ++ (glyph (n % 10) ∷ []) ≡ decimal n
unfolding decimal
decimal_more zero h = absurd (omega arith)
decimal_more (suc m) h =
    sym (digits_more m (suc m) h ∙ ap (λ (x : List ℕ). x ++ (glyph (suc m % 10) ∷ [])) (digits_same m (suc m / 10) (suc m / 10) (omega arith) (omega arith)))
