-- Four places are enough where every kept block but the first has rule D's weights.
use mathlib.Core.Path.{◌≡◌, sym, ◌∙◌, subst}
use mathlib.Core.Bool.{Bool, true, false, not, ◌&&◌, ◌||◌}
use mathlib.Core.List.{List, [], ◌∷◌}
use Prim.Native.Nat.{ℕ, zero, suc, ◌<◌, ◌≤◌}
use native.Mathlib.Omega.{arith}
use native.Mathlib.Decide.{ℕ_discrete}
use lib.Dec.{T, eqb, eqb→eq, eqb_refl, T_not, not_T}
use lib.ListN.{length}
use Rattle.rulebook.specs.declared.Block.{Block}
use Rattle.rulebook.specs.Tools.{choose}
use Rattle.rulebook.specs.Ledger.{Ledger, none, most_blocks, blocks_at, some_block, all_blocks, is_free, has_number, is_block, fill_block, keeps_block}
use Rattle.rulebook.specs.Rules.{fallback_weights}
use Rattle.rulebook.specs.WellFormed.{in_order, blocks_apart}
use Rattle.rule_laws.proofs.FourthLaws.{Counted, Weighty, no_four_blocks}
use Rattle.safety.proofs.Tests.{T_true, not_false, and_t, or_t, T-left, T-right, by_test, or_neither}
use Rattle.safety.proofs.Behind.{is_block_lem}

-- ---- lists of blocks

-- Where no place is free none of the list is.
all_taken_lem : (k : Block) (ks : List Block) → T (not (some_block is_free (k ∷ ks))) → T (not (is_free k)) × T (not (some_block is_free ks))
unfolding some_block
all_taken_lem k ks t = or_neither (is_free k) (some_block is_free ks) t

-- Two taken places of a list in order have different numbers.
order_differs : (x y : ℕ) → T (in_order x y) → T (not (none y)) → ¬ (x ≡ y)
unfolding in_order
order_differs x y t ny e =
    or_t (none y) (not (none x) && not (eqb x y)) t (λ u. T_not (none y) ny u)
    (λ u. T_not (eqb x y) (and_t (not (none x)) (not (eqb x y)) u).1 (subst (λ (z : ℕ). T (eqb x z)) e (eqb_refl x)))

-- Four taken places, by their blocks.
record FourTaken (ks : List Block) : Type 0 where
  pub at : ℕ → Block
  pub taken : (i : ℕ) → i < 4 → T (not (is_free (at i)))
  pub stands : (i : ℕ) → i < 4 → (p : Block → Bool) → T (p (at i)) → T (some_block p ks)
  pub apart : (i j : ℕ) → i < j → j < 4 → ¬ ((at i).number ≡ (at j).number)

-- The blocks of a list of four.
abbrev pick : Block → Block → Block → Block → ℕ → Block
pick a b c d zero = a
pick a b c d (suc zero) = b
pick a b c d (suc (suc zero)) = c
pick a b c d (suc (suc (suc i))) = d

module _ (a b c d : Block) where
  abbrev four : List Block
  four = a ∷ b ∷ c ∷ d ∷ []

  four_stand : (p : Block → Bool) (i : ℕ) → i < 4 → T (p (pick a b c d i)) → T (some_block p four)
  unfolding some_block
  four_stand p zero h t = T-left (p a) _ t
  four_stand p (suc zero) h t = T-right (p a) _ (T-left (p b) _ t)
  four_stand p (suc (suc zero)) h t = T-right (p a) _ (T-right (p b) _ (T-left (p c) _ t))
  four_stand p (suc (suc (suc i))) h t = T-right (p a) _ (T-right (p b) _ (T-right (p c) _ (T-left (p d) _ t)))

  four_taken : T (not (some_block is_free four)) → T (blocks_apart four) → FourTaken four
  unfolding blocks_apart all_blocks
  four_taken t u =
      let ta = all_taken_lem a (b ∷ c ∷ d ∷ []) t in
      let tb = all_taken_lem b (c ∷ d ∷ []) ta.1 in
      let tc = all_taken_lem c (d ∷ []) tb.1 in
      let td = all_taken_lem d [] tc.1 in
      let before : Block → Block → Bool = λ x k. in_order x.number k.number in
      let ua = and_t (before a b && (before a c && (before a d && true))) _ u in
      let ub = and_t (before b c && (before b d && true)) _ ua.1 in
      let uc = and_t (before c d && true) _ ub.1 in
      let ab = and_t (before a b) _ ua.0 in
      let ac = and_t (before a c) _ ab.1 in
      let ad = and_t (before a d) true ac.1 in
      let bc = and_t (before b c) _ ub.0 in
      let bd = and_t (before b d) true bc.1 in
      let cd = and_t (before c d) true uc.0 in
      let takes : (i : ℕ) → i < 4 → T (not (is_free (pick a b c d i))) = λ i. taken_at i ta.0 tb.0 tc.0 td.0 in
      record {
        at = pick a b c d;
        taken = takes;
        stands = λ i h p w. four_stand p i h w;
        apart = λ i j lt h. order_differs (pick a b c d i).number (pick a b c d j).number (order_at i j lt h ab.0 ac.0 ad.0 bc.0 bd.0 cd.0) (takes j h);
      }
    where
      taken_at : (i : ℕ) → T (not (is_free a)) → T (not (is_free b)) → T (not (is_free c)) → T (not (is_free d)) → i < 4 → T (not (is_free (pick a b c d i)))
      taken_at zero x y z w h = x
      taken_at (suc zero) x y z w h = y
      taken_at (suc (suc zero)) x y z w h = z
      taken_at (suc (suc (suc i))) x y z w h = w

      order_at : (i j : ℕ) → i < j → j < 4 → T (in_order a.number b.number) → T (in_order a.number c.number) → T (in_order a.number d.number)
          → T (in_order b.number c.number) → T (in_order b.number d.number) → T (in_order c.number d.number) → T (in_order (pick a b c d i).number (pick a b c d j).number)
      order_at zero zero lt h ab ac ad bc bd cd = absurd (omega arith)
      order_at zero (suc zero) lt h ab ac ad bc bd cd = ab
      order_at zero (suc (suc zero)) lt h ab ac ad bc bd cd = ac
      order_at zero (suc (suc (suc j))) lt h ab ac ad bc bd cd = ad
      order_at (suc zero) zero lt h ab ac ad bc bd cd = absurd (omega arith)
      order_at (suc zero) (suc zero) lt h ab ac ad bc bd cd = absurd (omega arith)
      order_at (suc zero) (suc (suc zero)) lt h ab ac ad bc bd cd = bc
      order_at (suc zero) (suc (suc (suc j))) lt h ab ac ad bc bd cd = bd
      order_at (suc (suc zero)) zero lt h ab ac ad bc bd cd = absurd (omega arith)
      order_at (suc (suc zero)) (suc zero) lt h ab ac ad bc bd cd = absurd (omega arith)
      order_at (suc (suc zero)) (suc (suc zero)) lt h ab ac ad bc bd cd = absurd (omega arith)
      order_at (suc (suc zero)) (suc (suc (suc j))) lt h ab ac ad bc bd cd = cd
      order_at (suc (suc (suc i))) j lt h ab ac ad bc bd cd = absurd (omega arith)

full_four : (ks : List Block) → length ks ≡ most_blocks → T (not (some_block is_free ks)) → T (blocks_apart ks) → FourTaken ks
full_four [] e t u = absurd (omega (arith, e))
full_four (a ∷ []) e t u = absurd (omega (arith, e))
full_four (a ∷ b ∷ []) e t u = absurd (omega (arith, e))
full_four (a ∷ b ∷ c ∷ []) e t u = absurd (omega (arith, e))
full_four (a ∷ b ∷ c ∷ d ∷ []) e t u = four_taken a b c d t u
full_four (a ∷ b ∷ c ∷ d ∷ k ∷ ks) e t u = absurd (omega (arith, e))

-- A block in the first free place is kept.
pub fill_stands : (p : Block → Bool) (k : Block) (ks : List Block) → T (p k) → T (some_block is_free ks) → T (some_block p (fill_block k ks))
unfolding some_block fill_block choose
fill_stands p k [] t u = absurd u
fill_stands p k (c ∷ cs) t u = go (is_free c) u (fill_stands p k cs t)
  where
    go : (z : Bool) → T (z || some_block is_free cs) → (T (some_block is_free cs) → T (some_block p (fill_block k cs))) → T (some_block p (choose z (k ∷ cs) (c ∷ fill_block k cs)))
    go true w ih = T-left (p k) (some_block p cs) t
    go false w ih = T-right (p c) (some_block p (fill_block k cs)) (ih w)

-- Where all places are free one is, and no block is kept.
pub all_free : (ks : List Block) → 1 ≤ length ks → T (all_blocks is_free ks) → T (some_block is_free ks)
unfolding all_blocks some_block
all_free [] h t = absurd (omega arith)
all_free (k ∷ ks) h t = T-left (is_free k) (some_block is_free ks) (and_t (is_free k) (all_blocks is_free ks) t).0

pub none_stands : (p : Block → Bool) (ks : List Block) → ((k : Block) → T (p k) → T (not (is_free k))) → T (all_blocks is_free ks) → ¬ T (some_block p ks)
unfolding all_blocks some_block
none_stands p [] f t u = u
none_stands p (k ∷ ks) f t u =
    let a = and_t (is_free k) (all_blocks is_free ks) t in
    or_t (p k) (some_block p ks) u (λ w. T_not (is_free k) (f k w) a.0) (λ w. none_stands p ks f a.1 w)

-- ---- counting

-- Every kept block of slot s but one has rule D's weights.
pub record FirstOrHeavy (l : Ledger) (s : ℕ) : Type 0 where
  pub first : ℕ
  pub others : (b p x : ℕ) → T (keeps_block l s b p x) → ¬ (b ≡ first) → T (fallback_weights l s b)

module _ (l : Ledger) (s : ℕ) (counted : Counted l s) (only : FirstOrHeavy l s) where
  -- Four kept blocks of different numbers, and another with the weights, are one too many.
  module _ (ks : FourTaken (blocks_at l s)) (b : ℕ) (nb : T (not (none b))) (w : T (fallback_weights l s b)) (new : (i : ℕ) → i < 4 → ¬ ((ks.at i).number ≡ b)) where
    abbrev number : ℕ → ℕ
    number i = (ks.at i).number

    keeps : (i : ℕ) → i < 4 → T (keeps_block l s (number i) (ks.at i).parentslot.0 (ks.at i).parent)
    unfolding keeps_block
    keeps i h = ks.stands i h (is_block (number i) (ks.at i).parentslot.0 (ks.at i).parent) (is_block_lem (ks.at i) (number i) (ks.taken i h) (eqb_refl (number i)))

    heavy : (i : ℕ) → i < 4 → ¬ (number i ≡ only.first) → Weighty l s (number i)
    heavy i h ne = record { block = not_false (none (number i)) (ks.taken i h); weights = T_true _ (only.others (number i) _ _ (keeps i h) ne) }

    differ : (x y : ℕ) → ¬ (x ≡ y) → eqb x y ≡ false
    differ x y ne = not_false (eqb x y) (not_T (eqb x y) (λ t. ne (eqb→eq x y t)))

    -- Three of them, none the first.
    three : (i j k : ℕ) → i < j → j < k → k < 4 → ¬ (number i ≡ only.first) → ¬ (number j ≡ only.first) → ¬ (number k ≡ only.first) → ⊥
    three i j k ij jk k4 fi fj fk =
        no_four_blocks l s counted (number i) (number j) (number k) b
        (differ (number i) (number j) (ks.apart i j ij (omega arith))) (differ (number i) (number k) (ks.apart i k (omega arith) k4)) (differ (number i) b (new i (omega arith)))
        (differ (number j) (number k) (ks.apart j k jk k4)) (differ (number j) b (new j (omega arith))) (differ (number k) b (new k k4))
        (heavy i (omega arith) fi) (heavy j (omega arith) fj) (heavy k k4 fk) (record { block = not_false (none b) nb; weights = T_true _ w })

    -- The first is at most one of the four.
    apart_from : (i j : ℕ) → i < j → j < 4 → number i ≡ only.first → ¬ (number j ≡ only.first)
    apart_from i j lt h e d = ks.apart i j lt h (e ∙ sym d)

    too_many : ⊥
    too_many = elim (ℕ_discrete (number 0) only.first) [
      | yes e ↦ three 1 2 3 (omega arith) (omega arith) (omega arith) (apart_from 0 1 (omega arith) (omega arith) e) (apart_from 0 2 (omega arith) (omega arith) e) (apart_from 0 3 (omega arith) (omega arith) e)
      | no n0 ↦ elim (ℕ_discrete (number 1) only.first) [
        | yes e ↦ three 0 2 3 (omega arith) (omega arith) (omega arith) n0 (apart_from 1 2 (omega arith) (omega arith) e) (apart_from 1 3 (omega arith) (omega arith) e)
        | no n1 ↦ elim (ℕ_discrete (number 2) only.first) [
          | yes e ↦ three 0 1 3 (omega arith) (omega arith) (omega arith) n0 n1 (apart_from 2 3 (omega arith) (omega arith) e)
          | no n2 ↦ three 0 1 2 (omega arith) (omega arith) (omega arith) n0 n1 n2
        ]
      ]
    ]

  -- So a block with the weights that is not kept finds a free place.
  pub heavy_room : length (blocks_at l s) ≡ most_blocks → T (blocks_apart (blocks_at l s)) → (b : ℕ) → T (not (none b)) → T (fallback_weights l s b)
      → T (not (some_block (has_number b) (blocks_at l s))) → T (some_block is_free (blocks_at l s))
  heavy_room long apart b nb w new =
      by_test (some_block is_free (blocks_at l s)) (λ t. t)
      (λ t. let ks = full_four (blocks_at l s) long t apart in
      absurd (too_many ks b nb w
      (λ i h e. T_not (some_block (has_number b) (blocks_at l s)) new (ks.stands i h (has_number b) (subst (λ (z : ℕ). T (eqb (ks.at i).number z)) e (eqb_refl (ks.at i).number))))))
