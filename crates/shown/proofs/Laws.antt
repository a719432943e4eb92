-- Laws of what a record shows: joint tests, the ledger of any words, places past the last, the slot through which a block is final, sums
-- of what counts.
-- Assumes nothing.
use mathlib.Core.Path.{◌≡◌, refl, sym, ap, ◌∙◌}
use mathlib.Core.Bool.{Bool, true, false, not, ◌&&◌, ◌||◌}
use mathlib.Core.List.{List}
use Prim.Native.Nat.{ℕ, suc, ◌+◌, ◌-◌, ◌*◌, ◌≤◌, ◌<◌}
use native.Mathlib.Omega.{arith}
use lib.ListN.{length, get_or, replicate, length-replicate, get_or-eq_default, get_or-replicate}
use lib.Dec.{leb, ltb}
use borrow.Author.Tests.{not-true, not-false, ltb-true, ltb-false, leb-true, leb-false}
use Rattle.rulebook.specs.declared.Cell.{Cell}
use Rattle.rulebook.specs.Tools.{choose, whenever, part, sum_to, some_to}
use Rattle.rulebook.specs.Weights.{last_slot, slot_ok}
use Rattle.rulebook.specs.Ledger.{Ledger, Row, none, blank_row, no_row, no_cell, no_block, most_blocks, places, row_at, cell_at, blocks_at, is_block, keeps_block}
use Rattle.rulebook.specs.WellFormed.{cell_blank}
use Rattle.rule_laws.proofs.ToolLaws.{by_test, choose_on, choose_off, given_on, given_off, and_both, both_and, part_le, sum_le, sum_const, some_none, some_more}
use Rattle.record.specs.Layout.{Long, ledger_of}
use Rattle.record.specs.Spelling.{is_spelled}
use Rattle.record.specs.Setting.{no_ledger}
use Rattle.record.proofs.Spelled.{spelled_long}
use Rattle.record.proofs.Reading.{ledger_shaped}
use Rattle.record.proofs.BlockPlaces.{some_places}
use Rattle.soundness.specs.Sound.{sound_words}
use Rattle.soundness.proofs.Laws.{sound_head}
use Rattle.writers.proofs.Laid.{weighing}
use Rattle.shown.specs.Shown.{ledger_in, leads_at, leads_to, lowest_slot, final_child, voted, has_votes, Counting}

-- ---- joint tests

module _ {A : Type 0} (a b : Bool) (x : A) (f : Unit {0} → A) where
  pub first_off : a ≡ false → x ≡ whenever (a && b) f x
  first_off e = sym (given_off (a && b) x f (ap (λ (t : Bool). t && b) e))

  pub second_off : b ≡ false → x ≡ whenever (a && b) f x
  second_off e = by_test a (λ t. sym (given_off (a && b) x f (λ i. t i && e i))) first_off

  pub both_on : a ≡ true → b ≡ true → f tt ≡ whenever (a && b) f x
  both_on d e = sym (given_on (a && b) x f (both_and a b d e))

-- One of the slots 1 to 16 has a row.
pub slot_small : (s : ℕ) → slot_ok s ≡ true → s < suc last_slot
unfolding slot_ok
slot_small s e = omega (arith, leb-true s last_slot (and_both (leb 1 s) (leb s last_slot) e).1)

pub slot_later : (s : ℕ) → slot_ok s ≡ true → 1 ≤ s
unfolding slot_ok
slot_later s e = leb-true 1 s (and_both (leb 1 s) (leb s last_slot) e).0

-- ---- any words

-- Nothing stands at any place of a list of nothing.
get_d_same : {A : Type 0} (n i : ℕ) (d : A) → get_or (replicate n d) i d ≡ d
get_d_same n i d =
    by_test (ltb i n) (λ t. get_or-replicate n i d d (ltb-true i n t))
    (λ t. get_or-eq_default (replicate n d) d (omega (arith, ltb-false i n t, length-replicate n d)))

-- A row with nothing in it has nothing in a cell for any node.
blank_cell : (r : Row) (n : ℕ) → r ≡ no_row → get_or r.cells n no_cell ≡ no_cell
unfolding no_row blank_row
blank_cell r n e = ap (λ (q : Row). get_or q.cells n no_cell) e

-- It keeps no block in any place.
blank_block : (r : Row) (n : ℕ) → r ≡ no_row → get_or r.blocks n no_block ≡ no_block
unfolding no_row blank_row
blank_block r n e = ap (λ (x : Row). get_or x.blocks n no_block) e ∙ get_d_same most_blocks n no_block

none_row : (s : ℕ) → row_at (no_ledger 0) s ≡ no_row
unfolding no_ledger no_row
none_row s = get_d_same (suc last_slot) s no_row

module _ (ws : List ℕ) (long : Bool) (e : long ≡ is_spelled ws) where
  module _ (q : not long ≡ true) where
    -- words that are not as many as a record's
    pub short_ledger : ledger_in ws ≡ no_ledger 0
    unfolding ledger_in
    short_ledger = given_off (is_spelled ws) (no_ledger 0) (λ _. ledger_of ws) (sym e ∙ not-true long q)

    pub short_row : (s : ℕ) → no_row ≡ row_at (ledger_in ws) s
    short_row s = sym (ap (λ (l : Ledger). row_at l s) short_ledger ∙ none_row s)

    pub short_block : (s n : ℕ) → no_block ≡ get_or (blocks_at (ledger_in ws) s) n no_block
    short_block s n = sym (blank_block (row_at (ledger_in ws) s) n (sym (short_row s)))

    pub short_cell : (s n : ℕ) → no_cell ≡ cell_at (ledger_in ws) s n
    short_cell s n = sym (blank_cell (row_at (ledger_in ws) s) n (sym (short_row s)))

  -- words of a record's length
  pub whole_ledger : not long ≡ false → ledger_of ws ≡ ledger_in ws
  unfolding ledger_in
  whole_ledger q = sym (given_on (is_spelled ws) (no_ledger 0) (λ _. ledger_of ws) (sym e ∙ not-false long q))

  pub whole_long : not long ≡ false → Long ws
  whole_long q = spelled_long ws (sym e ∙ not-false long q)

  module _ (q : not long ≡ false) where
    -- slots and nodes past the last
    pub past_row : (s : ℕ) → last_slot < s → no_row ≡ row_at (ledger_in ws) s
    past_row s h =
        sym (ap (λ (l : Ledger). row_at l s) (sym (whole_ledger q))
        ∙ get_or-eq_default (ledger_of ws).rows no_row (omega (arith, (ledger_shaped ws).rows)))

    pub past_blocks : (s n : ℕ) → last_slot < s → no_block ≡ get_or (blocks_at (ledger_in ws) s) n no_block
    past_blocks s n h = sym (blank_block (row_at (ledger_in ws) s) n (sym (past_row s h)))

    pub past_place : (s n : ℕ) → s ≤ last_slot → most_blocks ≤ n → no_block ≡ get_or (blocks_at (ledger_in ws) s) n no_block
    past_place s n h k =
        sym (ap (λ (l : Ledger). get_or (blocks_at l s) n no_block) (sym (whole_ledger q))
        ∙ get_or-eq_default (blocks_at (ledger_of ws) s) no_block (omega (arith, (ledger_shaped ws).blocks s (omega arith))))

    pub past_slot : (s n : ℕ) → last_slot < s → no_cell ≡ cell_at (ledger_in ws) s n
    past_slot s n h = sym (blank_cell (row_at (ledger_in ws) s) n (sym (past_row s h)))

    pub past_node : (s n : ℕ) → s ≤ last_slot → places (ledger_of ws) ≤ n → no_cell ≡ cell_at (ledger_in ws) s n
    past_node s n h k =
        sym (ap (λ (l : Ledger). cell_at l s n) (sym (whole_ledger q))
        ∙ get_or-eq_default (row_at (ledger_of ws) s).cells no_cell (omega (arith, (ledger_shaped ws).cells s (omega arith))))

-- ---- the slot through which a block is final

row_four : (r : Row) → no_row ≡ r → length r.blocks ≡ most_blocks
unfolding no_row blank_row
row_four r e = ap (λ (x : Row). length x.blocks) (sym e) ∙ length-replicate most_blocks no_block

-- Every slot of any words has four places for blocks.
four_places : (ws : List ℕ) (t : ℕ) → length (blocks_at (ledger_in ws) t) ≡ most_blocks
four_places ws t =
    by_test (is_spelled ws)
    (λ e. by_test (leb t last_slot)
    (λ h. ap (λ (l : Ledger). length (blocks_at l t)) (sym (whole_ledger ws (is_spelled ws) refl (ap not e)))
    ∙ (ledger_shaped ws).blocks t (omega (arith, leb-true t last_slot h)))
    (λ h. row_four (row_at (ledger_in ws) t) (past_row ws (is_spelled ws) refl (ap not e) t (omega (arith, leb-false t last_slot h)))))
    (λ e. row_four (row_at (ledger_in ws) t) (short_row ws (is_spelled ws) refl (ap not e) t))

module _ (ws : List ℕ) (s b t : ℕ) where
  abbrev pub in_place : ℕ → Bool
  in_place = leads_at (ledger_in ws) s b t

  pub leads_four : (first second third fourth : Bool) → first ≡ in_place 0 → second ≡ in_place 1 → third ≡ in_place 2 → fourth ≡ in_place 3
      → (((first || second) || third) || fourth) ≡ leads_to (ledger_in ws) s b t
  unfolding leads_to keeps_block some_to
  leads_four first second third fourth e f g h =
      (λ i. ((e i || f i) || g i) || h i)
      ∙ sym (some_places (is_block (row_at (ledger_in ws) t).final s b) (blocks_at (ledger_in ws) t)
      ∙ ap (λ (n : ℕ). some_to n in_place) (four_places ws t))

module _ (l : Ledger) (s b : ℕ) where
  -- the slot is sought from t on
  abbrev pub child_from : ℕ → ℕ
  child_from t = lowest_slot (leads_to l s b) (suc last_slot - t) t

  child_step : (t : ℕ) → t ≤ last_slot → child_from t ≡ choose (leads_to l s b t) t (child_from (t + 1))
  unfolding lowest_slot
  child_step t h =
      let e : suc last_slot - t ≡ suc (suc last_slot - (t + 1)) = omega arith in
      ap (λ (n : ℕ). lowest_slot (leads_to l s b) n t) e

  pub child_start : child_from 1 ≡ final_child l s b
  unfolding final_child
  child_start = refl

  pub child_here : (t : ℕ) → t ≤ last_slot → leads_to l s b t ≡ true → child_from t ≡ final_child l s b → t ≡ final_child l s b
  child_here t h e k = sym (child_step t h ∙ choose_on (leads_to l s b t) t (child_from (t + 1)) e) ∙ k

  pub child_more : (t : ℕ) → t ≤ last_slot → leads_to l s b t ≡ false → child_from t ≡ final_child l s b → child_from (t + 1) ≡ final_child l s b
  child_more t h e k = sym (child_step t h ∙ choose_off (leads_to l s b t) t (child_from (t + 1)) e) ∙ k

  pub child_none : (t : ℕ) → last_slot < t → child_from t ≡ final_child l s b → 0 ≡ final_child l s b
  unfolding lowest_slot
  child_none t h k =
      let e : suc last_slot - t ≡ 0 = omega arith in
      sym (ap (λ (n : ℕ). lowest_slot (leads_to l s b) n t) e) ∙ k

-- ---- whether some vote is stored

module _ (l : Ledger) (s : ℕ) where
  abbrev pub votes_to : ℕ → Bool
  votes_to n = some_to n (voted l s)

  pub votes_start : false ≡ votes_to 0
  votes_start = sym (some_none (voted l s))

  pub votes_more : (n : ℕ) (c : Cell) (some blank : Bool) → c ≡ cell_at l s n → some ≡ votes_to n → blank ≡ cell_blank c
      → (some || not blank) ≡ votes_to (n + 1)
  votes_more n c some blank e h q =
      (λ i. h i || not ((q ∙ ap cell_blank e) i)) ∙ sym (some_more n (voted l s))

  pub votes_done : (n : ℕ) (r : Bool) → r ≡ votes_to n → n ≡ l.count → r ≡ has_votes l s
  unfolding has_votes
  votes_done n r h e = h ∙ ap votes_to e

-- ---- sums of what counts

pub one_most : (b : Bool) → part b 1 ≤ 1
one_most b = part_le b 1

-- a place that holds something counts for one
pub flag_most : (x : ℕ) → part (not (none x)) 1 ≤ 1
flag_most x = one_most (not (none x))

-- a sum of terms of at most m
pub sum_most : (n m : ℕ) (f : ℕ → ℕ) → ((i : ℕ) → f i ≤ m) → sum_to n f ≤ n * m
sum_most n m f h = omega (arith, sum_le n f (λ _. m) (λ i k. h i), sum_const n m)

-- what counting in a sound record rests on
pub counting : (ws : List ℕ) (s : ℕ) → sound_words ws ≡ true → s < suc last_slot → Counting ws s
counting ws s e h = record { weighing = weighing ws s e h; few = (sound_head ws e).few }
