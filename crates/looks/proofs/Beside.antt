-- Those who name a block, the own node with them: bounds of what they weigh. Assumes nothing.
use mathlib.Core.Path.{◌≡◌, refl, sym, ap, ◌∙◌, subst}
use mathlib.Core.Bool.{Bool, true, false, not, ◌&&◌, ◌||◌}
use mathlib.Core.List.{List, [], ◌∷◌}
use Prim.Native.Nat.{ℕ, zero, suc, ◌+◌, ◌≤◌, ◌<◌}
use native.Mathlib.Omega.{arith}
use lib.ListN.{length, get_or, set, length-set}
use lib.Seq.{get_or-set_same, get_or-set_other}
use lib.Dec.{eqb, ltb}
use borrow.Author.Tests.{not-true, ltb-true, ltb-false, eqb-true, eqb-false}
use Rattle.rulebook.specs.Weights.{reaches, missing, weight, stake_in}
use Rattle.rulebook.specs.Ledger.{Ledger, cell_at}
use Rattle.rule_laws.proofs.ToolLaws.{by_test, and_both, or_right, true_not_false, part_on, part_off}
use Rattle.rule_laws.proofs.WeightLaws.{reaches_more, reaches_found, weight_none, weight_mono, weight_total, weight_more, weight_room}
use Rattle.record.specs.Tabled.{Tabled}
use Rattle.parents.specs.Naming.{names_some, named_weight}
use Rattle.looks.specs.Looks.{is_beside, named_beside, Bounds, is_short}

module _ (l : Ledger) (s : ℕ) where
  -- who names some block is among them
  named_within : named_weight l s ≤ named_beside l s
  unfolding named_weight named_beside is_beside
  named_within =
      weight_mono l.stakes l.count (λ n. names_some (cell_at l s n)) (λ n. eqb n l.own || names_some (cell_at l s n))
      (λ i h t. or_right (eqb i l.own) (names_some (cell_at l s i)) t)

  pub beside_total : Tabled l → named_beside l s ≤ l.total
  unfolding named_beside
  beside_total k = omega (arith, weight_total l.stakes l.count (is_beside l s), k.sum)

  -- where a look is short too few name a block
  pub short_names : (looks : List ℕ) → Bounds l looks → is_short l looks s ≡ true → reaches 3 l.total (named_weight l s) ≡ false
  unfolding is_short
  short_names looks b e =
      let h = and_both (ltb s (length looks)) (not (reaches 3 l.total (get_or looks s 0))) e in
      by_test (reaches 3 l.total (named_weight l s))
      (λ t. true_not_false (reaches 3 l.total (get_or looks s 0))
      (reaches_more 3 l.total (named_weight l s) (get_or looks s 0) (omega (arith, named_within, b.each s (ltb-true s (length looks) h.0))) t)
      (not-true (reaches 3 l.total (get_or looks s 0)) h.1))
      (λ t. t)

  -- ---- the look at a word

  pub short_none : (looks : List ℕ) → length looks ≤ s → false ≡ is_short l looks s
  unfolding is_short
  short_none looks h =
      by_test (ltb s (length looks)) (λ t. absurd (omega (arith, ltb-true s (length looks) t)))
      (λ t. (λ i. sym t i && not (reaches 3 l.total (get_or looks s 0))))

  pub short_some : (looks : List ℕ) (m : ℕ) → s < length looks → m ≡ missing 3 l.total (get_or looks s 0) → not (eqb m 0) ≡ is_short l looks s
  unfolding is_short
  short_some looks m h e =
      by_test (ltb s (length looks)) (λ t. (λ i. sym t i && not (sym (reaches_found 3 l.total (get_or looks s 0) m e) i)))
      (λ t. absurd (omega (arith, ltb-false s (length looks) t)))

  -- ---- counted one by one

  abbrev pub beside_to : ℕ → ℕ
  beside_to n = weight l.stakes n (is_beside l s)

  pub beside_none : beside_to 0 ≡ 0
  beside_none = weight_none l.stakes 0 (is_beside l s) (λ i h. absurd (omega arith))

  pub beside_on : (n : ℕ) (r : Bool) → r ≡ is_beside l s n → r ≡ true → beside_to (n + 1) ≡ beside_to n + stake_in l.stakes n
  beside_on n r e t = omega (arith, weight_more l.stakes n (is_beside l s) true (sym e ∙ t), part_on true (stake_in l.stakes n) refl)

  pub beside_off : (n : ℕ) (r : Bool) → r ≡ is_beside l s n → r ≡ false → beside_to (n + 1) ≡ beside_to n
  beside_off n r e t = omega (arith, weight_more l.stakes n (is_beside l s) false (sym e ∙ t), part_off false (stake_in l.stakes n) refl)

  pub beside_room : Tabled l → (n : ℕ) → n < l.count → beside_to n + stake_in l.stakes n ≤ l.total
  beside_room k n h = omega (arith, weight_room l.stakes l.count n (is_beside l s) h, k.sum)

  pub beside_done : (n : ℕ) → n ≡ l.count → beside_to n ≡ named_beside l s
  unfolding named_beside
  beside_done n e = ap beside_to e

-- ---- a list of words, one by one

module _ (l : Ledger) where
  -- The words xs bound the slots from i on.
  pub record From (i : ℕ) (xs : List ℕ) : Type 0 where
    pub each : (j : ℕ) → j < length xs → named_beside l (i + j) ≤ get_or xs j 0

  pub from_none : (i : ℕ) → From i []
  from_none i = record { each = λ j h. absurd (omega arith) }

  pub from_more : (i x : ℕ) (xs : List ℕ) → named_beside l i ≤ x → From (i + 1) xs → From i (x ∷ xs)
  from_more i x xs h f = record { each = here }
    where
      here : (j : ℕ) → j < length (x ∷ xs) → named_beside l (i + j) ≤ get_or (x ∷ xs) j 0
      here zero g = let e : i + 0 ≡ i = omega arith in rw e h
      here (suc j) g = let e : i + suc j ≡ (i + 1) + j = omega arith in rw e (f.each j (omega arith))

  pub from_all : (xs : List ℕ) → From 0 xs → Bounds l xs
  from_all xs f = record { each = λ s h. let e : 0 + s ≡ s = omega arith in subst (λ (x : ℕ). named_beside l x ≤ get_or xs s 0) e (f.each s h) }

-- ---- one word counted anew

pub bounds_counted : (l : Ledger) (looks : List ℕ) (s w : ℕ) → Bounds l looks → s < length looks → w ≡ named_beside l s → Bounds l (set looks s w)
bounds_counted l looks s w b z e = record { each = here }
  where
    here : (t : ℕ) → t < length (set looks s w) → named_beside l t ≤ get_or (set looks s w) t 0
    here t i =
        by_test (eqb t s)
        (λ u. let is = eqb-true t s u in omega (arith, e, ap (named_beside l) is, ap (λ (y : ℕ). get_or (set looks s w) y 0) is, get_or-set_same looks s w 0 z))
        (λ u. omega (arith, b.each t (omega (arith, i, length-set looks s w)), get_or-set_other looks s t w 0 (eqb-false t s u)))
