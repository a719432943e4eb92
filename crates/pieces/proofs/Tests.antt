-- The two tests of a state, part by part: what refuses it, what decides, and what is known of one that passes. Assumes nothing.
use Rattle.std.specs.Prelude.{is_some}
use mathlib.Core.Logic.{⊎_elim}
use mathlib.Core.Path.{◌≡◌, refl, sym, ap, ◌∙◌}
use mathlib.Core.Bool.{Bool, true, false, ◌&&◌, ◌||◌}
use mathlib.Core.List.{List}
use Prim.Native.Nat.{ℕ, ◌+◌, ◌-◌, ◌≤◌, ◌<◌}
use native.Mathlib.Omega.{arith}
use lib.ListN.{length, take, drop, length-drop}
use lib.Seq.{take_all}
use lib.Dec.{eqb, leb}
use borrow.Author.Tests.{eq-eqb, ne_eqb, eqb-true, le-leb, lt-leb, leb-true}
use Rattle.rulebook.specs.Tools.{choose}
use Rattle.rulebook.specs.Weights.{stakes_fit}
use Rattle.rulebook.specs.Ledger.{none}
use Rattle.rule_laws.proofs.ToolLaws.{choose_on, choose_off, and_both, both_and}
use Rattle.stakes.specs.Table.{made_of}
use Rattle.stakes.proofs.Laws.{made_cases}
use Rattle.pieces.specs.State.{state_words, front_bytes, mark, kept, nodes, table, blank, is_sized, is_ready, holds_table, is_whole, Taking}

-- ---- parts as the code lends them

-- All from a place on.
abbrev pub after : ℕ → List ℕ → List ℕ
after k xs = take (length xs - k) (drop k xs)

pub after_is : (k : ℕ) (xs : List ℕ) → after k xs ≡ drop k xs
after_is k xs = take_all (length xs - k) (drop k xs) (omega (arith, length-drop k xs))

-- The stakes, from their place to the place after them.
abbrev pub first_stakes : List ℕ → List ℕ
first_stakes ws = take (2 + nodes ws - 2) (drop 2 ws)

pub first_stakes_lem : (ws : List ℕ) → first_stakes ws ≡ table ws
first_stakes_lem ws = let e : 2 + nodes ws - 2 ≡ nodes ws = omega arith in ap (λ (k : ℕ). take k (drop 2 ws)) e

-- ---- of a piece

module _ (ws bs : List ℕ) where
  pub sized_says : is_sized ws bs ≡ true → (length ws ≡ state_words) × (length bs ≡ front_bytes)
  unfolding is_sized
  sized_says e =
      let x = and_both (eqb (length ws) state_words) (eqb (length bs) front_bytes) e in
      (eqb-true (length ws) state_words x.0, eqb-true (length bs) front_bytes x.1)

  pub sized_so : length ws ≡ state_words → length bs ≡ front_bytes → is_sized ws bs ≡ true
  unfolding is_sized
  sized_so h k = both_and (eqb (length ws) state_words) (eqb (length bs) front_bytes) (eq-eqb (length ws) state_words h) (eq-eqb (length bs) front_bytes k)

  pub ready_unsized : is_sized ws bs ≡ false → false ≡ is_ready ws bs
  unfolding is_ready
  ready_unsized e = rw e refl

  pub ready_begun : is_sized ws bs ≡ true → (mark ws ≡ 0 → ⊥) → leb (mark ws) (front_bytes + 1) ≡ is_ready ws bs
  unfolding is_ready
  ready_begun e n = rw e (sym (choose_off (none (mark ws)) _ _ (ne_eqb (mark ws) 0 n)))

  pub ready_fresh : is_sized ws bs ≡ true → mark ws ≡ 0 → (blank ws && blank bs) ≡ is_ready ws bs
  unfolding is_ready
  ready_fresh e n = rw e (sym (choose_on (none (mark ws)) _ _ (eq-eqb (mark ws) 0 n)))

  pub ready_sized : is_ready ws bs ≡ true → is_sized ws bs ≡ true
  unfolding is_ready
  ready_sized e = (and_both (is_sized ws bs) (choose (none (mark ws)) (blank ws && blank bs) (leb (mark ws) (front_bytes + 1))) e).0

  pub ready_words : is_ready ws bs ≡ true → length ws ≡ state_words
  ready_words e = (sized_says (ready_sized e)).0

  pub ready_bytes : is_ready ws bs ≡ true → length bs ≡ front_bytes
  ready_bytes e = (sized_says (ready_sized e)).1

  pub ready_within : is_ready ws bs ≡ true → (mark ws ≡ 0 → ⊥) → mark ws ≤ front_bytes + 1
  ready_within e n = leb-true (mark ws) (front_bytes + 1) (ready_begun (ready_sized e) n ∙ e)

  pub ready_blank : is_ready ws bs ≡ true → mark ws ≡ 0 → (blank ws ≡ true) × (blank bs ≡ true)
  ready_blank e n = and_both (blank ws) (blank bs) (ready_fresh (ready_sized e) n ∙ e)

  pub ready_taking : is_ready ws bs ≡ true → (mark ws ≡ 0 → ⊥) → Taking ws bs
  ready_taking e n =
      record { words = ready_words e; bytes = ready_bytes e; begun = positive (mark ws) n; within = ready_within e n }
    where
      positive : (m : ℕ) → (m ≡ 0 → ⊥) → 1 ≤ m
      positive m f = omega arith

-- ---- of the end

-- A table is made exactly where the stakes fit.
pub made_test : (stakes : List ℕ) → is_some (made_of stakes) ≡ stakes_fit stakes (length stakes)
made_test stakes = ⊎_elim (λ h. ap is_some h.1 ∙ sym h.0) (λ h. ap is_some h.1 ∙ sym h.0) (made_cases stakes)

module _ (ws : List ℕ) where
  pub table_many : 2048 < nodes ws → false ≡ holds_table ws
  unfolding holds_table
  table_many h = rw (lt-leb (nodes ws) 2048 h) refl

  pub table_few : (fits clean : Bool) → nodes ws ≤ 2048 → fits ≡ stakes_fit (first_stakes ws) (length (first_stakes ws)) → clean ≡ blank (after (2 + nodes ws) ws)
      → (fits && clean) ≡ holds_table ws
  unfolding holds_table
  table_few fits clean h e f =
      rw (le-leb (nodes ws) 2048 h)
      (λ i. (e ∙ ap (λ (x : List ℕ). stakes_fit x (length x)) (first_stakes_lem ws)) i && (f ∙ ap blank (after_is (2 + nodes ws) ws)) i)

  -- What is known of a state that holds a table.
  pub record Held : Type 0 where
    pub few : nodes ws ≤ 2048
    pub fits : stakes_fit (table ws) (length (table ws)) ≡ true
    pub clean : blank (drop (2 + nodes ws) ws) ≡ true

  pub table_held : holds_table ws ≡ true → Held
  unfolding holds_table
  table_held e =
      let x = and_both (leb (nodes ws) 2048) (stakes_fit (table ws) (length (table ws)) && blank (drop (2 + nodes ws) ws)) e in
      let y = and_both (stakes_fit (table ws) (length (table ws))) (blank (drop (2 + nodes ws) ws)) x.1 in
      record { few = leb-true (nodes ws) 2048 x.0; fits = y.0; clean = y.1 }

module _ (ws bs : List ℕ) where
  pub whole_unready : is_ready ws bs ≡ false → false ≡ is_whole ws bs
  unfolding is_whole
  whole_unready e = rw e refl

  pub whole_fresh : is_ready ws bs ≡ true → mark ws ≡ 0 → true ≡ is_whole ws bs
  unfolding is_whole
  whole_fresh e n = rw (e, eq-eqb (mark ws) 0 n) refl

  whole_begun : is_ready ws bs ≡ true → (mark ws ≡ 0 → ⊥) → (holds_table ws && blank (drop (kept ws) bs)) ≡ is_whole ws bs
  unfolding is_whole
  whole_begun e n = rw (e, ne_eqb (mark ws) 0 n) refl

  pub whole_decided : (held clean : Bool) → is_ready ws bs ≡ true → (mark ws ≡ 0 → ⊥) → held ≡ holds_table ws → clean ≡ blank (after (kept ws) bs)
      → (held && clean) ≡ is_whole ws bs
  whole_decided held clean e n h f = (λ i. h i && (f ∙ ap blank (after_is (kept ws) bs)) i) ∙ whole_begun e n

  pub whole_ready : is_whole ws bs ≡ true → is_ready ws bs ≡ true
  unfolding is_whole
  whole_ready e = (and_both (is_ready ws bs) (none (mark ws) || (holds_table ws && blank (drop (kept ws) bs))) e).0

  pub whole_held : is_whole ws bs ≡ true → (mark ws ≡ 0 → ⊥) → (holds_table ws ≡ true) × (blank (drop (kept ws) bs) ≡ true)
  whole_held e n = and_both (holds_table ws) (blank (drop (kept ws) bs)) (whole_begun (whole_ready e) n ∙ e)
