-- A vote stored: what those weigh who name a block grows by its node's stake in its slot, where it names one, and nowhere else. Assumes nothing.
use mathlib.Core.Path.{◌≡◌, refl, sym, ap, ◌∙◌}
use mathlib.Core.Bool.{Bool, true, false, ◌||◌}
use mathlib.Core.List.{List}
use Prim.Native.Nat.{ℕ, zero, suc, ◌+◌, ◌≤◌, ◌<◌}
use native.Mathlib.Omega.{arith}
use native.Mathlib.Numerals.{add-one}
use lib.ListN.{length, get_or, set, length-set}
use lib.Seq.{get_or-set_same, get_or-set_other}
use lib.Dec.{eqb}
use borrow.Author.Tests.{eqb-true, eqb-false, eq-eqb, ne_eqb}
use Rattle.rulebook.specs.declared.Cell.{Cell}
use Rattle.rulebook.specs.declared.Place.TheVariants.{Free}
use Rattle.rulebook.specs.declared.VoteKind.{VoteKind}
use Rattle.rulebook.specs.declared.VoteKind.TheVariants as vote
use Rattle.rulebook.specs.Weights.{last_slot, weight, stake_in}
use Rattle.rulebook.specs.Ledger.{Ledger, places, cell_at}
use Rattle.rulebook.specs.Votes.{place_of, with_vote, store_vote}
use Rattle.rule_laws.proofs.ToolLaws.{by_test, or_left, or_right, true_not_false, part_on, part_off}
use Rattle.rule_laws.proofs.WeightLaws.{weight_none, weight_mono, weight_total, weight_cover, weight_more}
use Rattle.record.specs.Tabled.{Tabled}
use Rattle.settling.specs.Facts.{Sound}
use Rattle.settling.proofs.Weighing.{stored_cases}
use Rattle.parents.specs.Naming.{names_some}
use Rattle.looks.specs.Looks.{is_beside, named_beside, Bounds, names_block}

-- a vote that names no block leaves what is named
same_names : (c : Cell) (k : VoteKind) (x : ℕ) → names_block k ≡ false → names_some (with_vote c k x) ≡ names_some c
unfolding names_block with_vote names_some
same_names c vote.Notar x e = true_not_false true refl e
same_names c vote.NotarFallback x e = true_not_false true refl e
same_names c vote.Skip x e = refl
same_names c vote.SkipFallback x e = refl
same_names c vote.Final x e = refl
same_names c vote.Other x e = refl

-- one node weighs its stake
one_weight : (ws : List ℕ) (n k : ℕ) → weight ws k (λ i. eqb i n) ≤ stake_in ws n
one_weight ws n zero = omega (arith, weight_none ws 0 (λ i. eqb i n) (λ i h. absurd (omega arith)))
one_weight ws n (suc k) =
    rw (← (add-one k))
    (by_test (eqb k n)
    (λ t.
    let e = eqb-true k n t in
    omega (
      arith,
      weight_more ws k (λ i. eqb i n) true t,
      part_on true (stake_in ws k) refl,
      weight_none ws k (λ i. eqb i n) (λ i h. ne_eqb i n (λ z. omega arith)),
      ap (stake_in ws) e,
    ))
    (λ t. omega (arith, weight_more ws k (λ i. eqb i n) false t, part_off false (stake_in ws k) refl, one_weight ws n k)))

module _ (l : Ledger) (h : Sound l) (s n : ℕ) (k : VoteKind) (x : ℕ) (high : s ≤ last_slot) (low : n < places l) (free : place_of (cell_at l s n) k x ≡ Free) where
  abbrev stored : Ledger
  stored = store_vote l s n k x

  -- ---- who is beside then

  other_slot : (t : ℕ) → (t ≡ s → ⊥) → (i : ℕ) → is_beside stored t i ≡ true → is_beside l t i ≡ true
  unfolding is_beside store_vote
  other_slot t ne i =
      stored_cases l h.shaped s n k x high low free (λ j i c. j ≡ t → (eqb i l.own || names_some c) ≡ true → (eqb i l.own || names_some (cell_at l j i)) ≡ true)
      (λ q u. absurd (ne (sym q))) (λ j i q u. u) t i refl

  no_name : names_block k ≡ false → (t i : ℕ) → is_beside stored t i ≡ true → is_beside l t i ≡ true
  unfolding is_beside store_vote
  no_name e =
      stored_cases l h.shaped s n k x high low free (λ j i c. (eqb i l.own || names_some c) ≡ true → (eqb i l.own || names_some (cell_at l j i)) ≡ true)
      (λ u. ap (λ (y : Bool). eqb n l.own || y) (sym (same_names (cell_at l s n) k x e)) ∙ u) (λ j i u. u)

  named_already : names_some (cell_at l s n) ≡ true → (t i : ℕ) → is_beside stored t i ≡ true → is_beside l t i ≡ true
  unfolding is_beside store_vote
  named_already e =
      stored_cases l h.shaped s n k x high low free (λ j i c. (eqb i l.own || names_some c) ≡ true → (eqb i l.own || names_some (cell_at l j i)) ≡ true)
      (λ u. or_right (eqb n l.own) (names_some (cell_at l s n)) e) (λ j i u. u)

  or_this : (i : ℕ) → is_beside stored s i ≡ true → (is_beside l s i || eqb i n) ≡ true
  unfolding is_beside store_vote
  or_this i =
      stored_cases l h.shaped s n k x high low free (λ j i c. (eqb i l.own || names_some c) ≡ true → ((eqb i l.own || names_some (cell_at l j i)) || eqb i n) ≡ true)
      (λ u. or_right (eqb n l.own || names_some (cell_at l s n)) (eqb n n) (eq-eqb n n refl))
      (λ j i u. or_left (eqb i l.own || names_some (cell_at l j i)) (eqb i n) u) s i

  -- ---- what they weigh

  weighs_less : (t : ℕ) → ((i : ℕ) → is_beside stored t i ≡ true → is_beside l t i ≡ true) → named_beside stored t ≤ named_beside l t
  unfolding named_beside store_vote
  weighs_less t f = weight_mono l.stakes l.count (is_beside (store_vote l s n k x) t) (is_beside l t) (λ i _. f i)

  weighs_more : named_beside stored s ≤ named_beside l s + stake_in l.stakes n
  unfolding named_beside store_vote
  weighs_more =
      omega (
        arith,
        weight_cover l.stakes l.count (is_beside (store_vote l s n k x) s) (is_beside l s) (λ i. eqb i n) (λ i _. or_this i),
        one_weight l.stakes n l.count,
      )

  weighs_within : Tabled l → (t : ℕ) → named_beside stored t ≤ l.total
  unfolding named_beside store_vote
  weighs_within table t = omega (arith, weight_total l.stakes l.count (is_beside (store_vote l s n k x) t), table.sum)

  module _ (looks : List ℕ) (b : Bounds l looks) where
    pub noted_outside : length looks ≤ s → Bounds stored looks
    noted_outside z = record { each = λ t i. omega (arith, b.each t i, weighs_less t (other_slot t (λ e. omega arith))) }

    pub noted_other : names_block k ≡ false → Bounds stored looks
    noted_other e = record { each = λ t i. omega (arith, b.each t i, weighs_less t (no_name e t)) }

    pub noted_again : names_some (cell_at l s n) ≡ true → Bounds stored looks
    noted_again e = record { each = λ t i. omega (arith, b.each t i, weighs_less t (named_already e t)) }

    pub noted_full : Tabled l → l.total ≤ get_or looks s 0 → Bounds stored looks
    noted_full table z = record { each = here }
      where
        here : (t : ℕ) → t < length looks → named_beside stored t ≤ get_or looks t 0
        here t i =
            by_test (eqb t s)
            (λ u. omega (arith, weighs_within table t, z, ap (λ (y : ℕ). get_or looks y 0) (eqb-true t s u)))
            (λ u. omega (arith, b.each t i, weighs_less t (other_slot t (eqb-false t s u))))

    pub noted_more : s < length looks → Bounds stored (set looks s (get_or looks s 0 + stake_in l.stakes n))
    noted_more z = record { each = here }
      where
        here : (t : ℕ) → t < length (set looks s (get_or looks s 0 + stake_in l.stakes n)) → named_beside stored t ≤ get_or (set looks s (get_or looks s 0 + stake_in l.stakes n)) t 0
        here t i =
            by_test (eqb t s)
            (λ u.
            let e = eqb-true t s u in
            omega (
              arith,
              b.each s z,
              weighs_more,
              ap (named_beside stored) e,
              ap (λ (y : ℕ). get_or (set looks s (get_or looks s 0 + stake_in l.stakes n)) y 0) e,
              get_or-set_same looks s (get_or looks s 0 + stake_in l.stakes n) 0 z,
            ))
            (λ u.
            let ne = eqb-false t s u in
            omega (
              arith,
              b.each t (omega (arith, i, length-set looks s (get_or looks s 0 + stake_in l.stakes n))),
              weighs_less t (other_slot t ne),
              get_or-set_other looks s t (get_or looks s 0 + stake_in l.stakes n) 0 ne,
            ))
