-- What is missing to rule D's weights: they are there exactly from that much further stake on. Assumes nothing.
use mathlib.Core.Path.{◌≡◌, sym, ap, ◌∙◌}
use mathlib.Core.Bool.{true, ◌&&◌, ◌||◌}
use Prim.Native.Nat.{ℕ, ◌+◌, ◌≤◌, ◌<◌, min, max}
use native.Mathlib.Omega.{arith}
use lib.Dec.{leb, eqb}
use borrow.Author.Tests.{leb-true, leb-false, le-leb, lt-leb, eq-eqb, ne_eqb}
use Rattle.rulebook.specs.Weights.{reaches, missing, d_weights}
use Rattle.rule_laws.proofs.ToolLaws.{by_test}
use Rattle.rule_laws.proofs.WeightLaws.{fact_reaches, missing_least}
use Rattle.readers.specs.Weighed.{missing_d}

module _ (t x : ℕ) where
  enough : (j w : ℕ) → missing j t w ≤ x → reaches j t (w + x) ≡ true
  unfolding missing
  enough j w h = fact_reaches j t (w + x) (omega arith)

  -- The threshold test of a weight with x more.
  from_missing : (j w : ℕ) → reaches j t (w + x) ≡ leb (missing j t w) x
  from_missing j w =
      by_test (leb (missing j t w) x) (λ e. enough j w (leb-true (missing j t w) x e) ∙ sym e)
      (λ e. missing_least j t w x (leb-false (missing j t w) x e) ∙ sym e)

-- The less of a and the larger of b and c is at most x.
nearest : (a b c x : ℕ) → (leb a x || (leb b x && leb c x)) ≡ leb (min a (max b c)) x
nearest a b c x =
    by_test (leb a x)
    (λ e. let h = leb-true a x e in (λ i. e i || (leb b x && leb c x)) ∙ sym (le-leb (min a (max b c)) x (omega arith)))
    (λ e. (λ i. e i || (leb b x && leb c x)) ∙ both (leb-false a x e))
  where
    both : x < a → (leb b x && leb c x) ≡ leb (min a (max b c)) x
    both h =
        by_test (leb b x)
        (λ e. (λ i. e i && leb c x)
        ∙ by_test (leb c x)
        (λ f. let g = leb-true b x e in let k = leb-true c x f in f ∙ sym (le-leb (min a (max b c)) x (omega arith)))
        (λ f. let k = leb-false c x f in f ∙ sym (lt-leb (min a (max b c)) x (omega arith))))
        (λ e. let g = leb-false b x e in (λ i. e i && leb c x) ∙ sym (lt-leb (min a (max b c)) x (omega arith)))

-- With further notar stake x the block has rule D's weights exactly where x is what is missing or more.
pub missing_exactly : (t n k x : ℕ) → d_weights t (n + x) k ≡ leb (missing_d t n k) x
unfolding missing_d
missing_exactly t n k x =
    let e : k + (n + x) ≡ (k + n) + x = omega arith in
    (λ i. reaches 2 t (n + x) || (reaches 1 t (n + x) && reaches 3 t (e i)))
    ∙ (λ i. from_missing t x 2 n i || (from_missing t x 1 n i && from_missing t x 3 (k + n) i))
    ∙ nearest (missing 2 t n) (missing 1 t n) (missing 3 t (k + n)) x

-- Nothing is missing exactly where the block has them.
pub missing_nothing : (t n k : ℕ) → d_weights t n k ≡ eqb (missing_d t n k) 0
missing_nothing t n k =
    let z : n ≡ n + 0 = omega arith in
    ap (λ (m : ℕ). d_weights t m k) z ∙ missing_exactly t n k 0 ∙ below (missing_d t n k)
  where
    below : (m : ℕ) → leb m 0 ≡ eqb m 0
    below m =
        by_test (leb m 0) (λ e. let h = leb-true m 0 e in e ∙ sym (eq-eqb m 0 (omega arith)))
        (λ e. let h = leb-false m 0 e in e ∙ sym (ne_eqb m 0 (λ q. omega (arith, q))))
