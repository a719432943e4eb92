-- The numbers of a list above another, ascending: which they are. Assumes nothing.
use mathlib.Core.Path.{◌≡◌, refl, ap, ◌∙◌}
use mathlib.Core.Bool.{Bool, true, false, not, ◌&&◌, ◌||◌}
use mathlib.Core.List.{List, [], ◌∷◌}
use Prim.Native.Nat.{ℕ, zero, suc, ◌+◌, ◌≤◌, ◌<◌}
use native.Mathlib.Omega.{arith}
use lib.ListN.{length}
use lib.Dec.{eqb, ltb}
use borrow.Author.Tests.{eqb-true, eqb-false, ltb-true, lt-ltb, le-ltb}
use Rattle.rulebook.specs.Tools.{part, any_of, lower, lowest}
use Rattle.rulebook.specs.Ledger.{none}
use Rattle.rule_laws.proofs.ToolLaws.{given_on, given_off, by_test, and_both, both_and, or_cases, or_left, or_right, true_not_false, same_test, part_on, part_off, part_mono}
use Rattle.rule_laws.proofs.LowestLaws.{lower_cases, lower_off, low_find}
use Rattle.difference_lines.specs.Lines.{ascending}

-- The lowest above x is no higher than any number of the list above x.
low_under : (x : ℕ) (bs : List ℕ) (b : ℕ) → any_of (eqb b) bs ≡ true → x < b → (1 ≤ lowest (ltb x) bs) × (lowest (ltb x) bs ≤ b)
unfolding lowest any_of
low_under x [] b h i = true_not_false false h refl
low_under x (y ∷ bs) b h i =
    or_cases (eqb b y) (any_of (eqb b) bs) h
    (λ t.
    let q = eqb-true b y t in
    let w : lowest (ltb x) (y ∷ bs) ≡ lower true y (lowest (ltb x) bs) = ap (λ (u : Bool). lower u y (lowest (ltb x) bs)) (lt-ltb x y (omega arith)) in
    lower_cases y (lowest (ltb x) bs) (λ j k. omega arith) (λ j k m. omega arith) (λ j k m. omega arith))
    (λ t.
    let d = low_under x bs b t i in
    by_test (ltb x y)
    (λ u.
    let f = ltb-true x y u in
    let w : lowest (ltb x) (y ∷ bs) ≡ lower true y (lowest (ltb x) bs) = ap (λ (e : Bool). lower e y (lowest (ltb x) bs)) u in
    lower_cases y (lowest (ltb x) bs) (λ j k. omega arith) (λ j k m. omega arith) (λ j k m. omega arith))
    (λ u.
    let w : lowest (ltb x) (y ∷ bs) ≡ lowest (ltb x) bs = ap (λ (e : Bool). lower e y (lowest (ltb x) bs)) u ∙ lower_off y (lowest (ltb x) bs) in
    omega arith))

-- How many numbers of a list are above x.
unfoldable count_above : ℕ → List ℕ → ℕ
count_above x [] = 0
count_above x (y ∷ bs) = part (ltb x y) 1 + count_above x bs

above_most : (x : ℕ) (bs : List ℕ) → count_above x bs ≤ length bs
unfolding count_above part
above_most x [] = omega arith
above_most x (y ∷ bs) = by_test (ltb x y) (λ u. rw u (omega (arith, above_most x bs))) (λ u. rw u (omega (arith, above_most x bs)))

part_higher : (x m y : ℕ) → x < m → part (ltb m y) 1 ≤ part (ltb x y) 1
part_higher x m y h = part_mono (ltb m y) (ltb x y) 1 (λ e. let k = ltb-true m y e in lt-ltb x y (omega arith))

above_fewer : (x m : ℕ) (bs : List ℕ) → x < m → count_above m bs ≤ count_above x bs
unfolding count_above
above_fewer x m [] h = omega arith
above_fewer x m (y ∷ bs) h = omega (arith, part_higher x m y h, above_fewer x m bs h)

-- Above one of them there are fewer.
above_falls : (x m : ℕ) (bs : List ℕ) → x < m → any_of (eqb m) bs ≡ true → count_above m bs + 1 ≤ count_above x bs
unfolding count_above any_of
above_falls x m [] h e = true_not_false false e refl
above_falls x m (y ∷ bs) h e =
    or_cases (eqb m y) (any_of (eqb m) bs) e
    (λ t.
    let q = eqb-true m y t in
    let a = part_off (ltb m y) 1 (le-ltb m y (omega arith)) in
    let b = part_on (ltb x y) 1 (lt-ltb x y (omega arith)) in
    omega (arith, above_fewer x m bs h))
    (λ t. omega (arith, part_higher x m y h, above_falls x m bs h t))

some_above : (x b : ℕ) (bs : List ℕ) → x < b → any_of (eqb b) bs ≡ true → 1 ≤ count_above x bs
some_above x b bs h e = omega (arith, above_falls x b bs h e)

module _ (bs : List ℕ) (b : ℕ) where
  -- The numbers above x: exactly those of the list.
  ascending_in : (x f : ℕ) → count_above x bs ≤ f → any_of (eqb b) (ascending bs x f) ≡ (ltb x b && any_of (eqb b) bs)
  unfolding ascending any_of
  ascending_in x zero h =
      same_test false (ltb x b && any_of (eqb b) bs) (λ e. true_not_false false e refl)
      (λ e. let k = and_both (ltb x b) (any_of (eqb b) bs) e in absurd (omega (arith, some_above x b bs (ltb-true x b k.0) k.1)))
  ascending_in x (suc f) h =
      let m = lowest (ltb x) bs in
      by_test (none m)
      (λ e.
      let z : not (none m) ≡ false = rw e in
      ap (any_of (eqb b)) (given_off (not (none m)) [] (λ _. m ∷ ascending bs m f) z)
      ∙ same_test false (ltb x b && any_of (eqb b) bs) (λ d. true_not_false false d refl)
      (λ d. let k = and_both (ltb x b) (any_of (eqb b) bs) d in let q = eqb-true m 0 e in absurd (omega (arith, (low_under x bs b k.1 (ltb-true x b k.0)).0))))
      (λ e.
      let z : not (none m) ≡ true = rw e in
      let p : 1 ≤ m = omega (arith, eqb-false m 0 e) in
      let w = low_find (ltb x) bs p in
      let g : x < m = ltb-true x m w.1 in
      let i = ascending_in m f (omega (arith, above_falls x m bs g w.0)) in
      ap (any_of (eqb b)) (given_on (not (none m)) [] (λ _. m ∷ ascending bs m f) z)
      ∙ ap (λ (t : Bool). eqb b m || t) i
      ∙ same_test (eqb b m || (ltb m b && any_of (eqb b) bs)) (ltb x b && any_of (eqb b) bs)
      (λ d. or_cases (eqb b m) (ltb m b && any_of (eqb b) bs) d
      (λ t. let q = eqb-true b m t in both_and (ltb x b) (any_of (eqb b) bs) (lt-ltb x b (omega arith)) (ap (λ (y : ℕ). any_of (eqb y) bs) q ∙ w.0))
      (λ t. let k = and_both (ltb m b) (any_of (eqb b) bs) t in let j = ltb-true m b k.0 in both_and (ltb x b) (any_of (eqb b) bs) (lt-ltb x b (omega arith)) k.1))
      (λ d.
      let k = and_both (ltb x b) (any_of (eqb b) bs) d in
      let j = (low_under x bs b k.1 (ltb-true x b k.0)).1 in
      by_test (eqb b m) (λ t. or_left (eqb b m) (ltb m b && any_of (eqb b) bs) t)
      (λ t. let n = eqb-false b m t in or_right (eqb b m) (ltb m b && any_of (eqb b) bs) (both_and (ltb m b) (any_of (eqb b) bs) (lt-ltb m b (omega arith)) k.1))))

  pub ascending_whole : (f : ℕ) → length bs ≤ f → any_of (eqb b) (ascending bs 0 f) ≡ (ltb 0 b && any_of (eqb b) bs)
  ascending_whole f h = ascending_in 0 f (omega (arith, above_most 0 bs))
