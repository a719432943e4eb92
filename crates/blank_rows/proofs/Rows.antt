-- The words of a row are all 0 exactly where nothing stands in it. Assumes nothing.
use mathlib.Core.Path.{◌≡◌, refl, sym, ap, ap₂, ◌∙◌}
use mathlib.Core.Bool.{Bool, ◌&&◌}
use mathlib.Core.List.{List}
use Prim.Native.Nat.{ℕ, ◌+◌, ◌-◌, ◌*◌, ◌≤◌}
use native.Mathlib.Omega.{arith}
use lib.ListN.{length, get_or, take, drop, length-drop}
use lib.Seq.{length-take-le}
use lib.Dec.{ltb}
use borrow.Author.Tests.{le-ltb}
use Rattle.rulebook.specs.declared.Block.{Block}
use Rattle.rulebook.specs.declared.Tally.{Tally}
use Rattle.rulebook.specs.Tools.{whenever, all_to}
use Rattle.rulebook.specs.Ledger.{Ledger, none, no_block, no_card, places, row_at, cell_at, blocks_at, all_blocks, certificates_at}
use Rattle.rulebook.specs.Cards.{same_card}
use Rattle.rulebook.specs.WellFormed.{block_blank, kept_blank, each_kept, cell_blank, cell_fits, cells_fit}
use Rattle.rule_laws.proofs.ToolLaws.{given_off, all_same}
use Rattle.record.specs.Layout.{word_at, mask_words, row_start, kept_start, places_in, ledger_of, InSlot, KeptAt, block_from, cell_from, card_from}
use Rattle.record.proofs.Tables.{part_table}
use Rattle.record.proofs.Places.{row_inside, places_words}
use Rattle.record.proofs.Reading.{block_words, cell_words_lem, timed_out_read, final_read, clash_read, card_read, ledger_shaped}
use Rattle.record.proofs.BlockPlaces.{all_places}
use Rattle.kept_certificates.specs.Kept.{all_none}
use Rattle.kept_certificates.proofs.ByPlace.{none_table, slot_blank}
use Rattle.blank_rows.specs.Blank.{none_from, nothing_in}
use Rattle.blank_rows.proofs.Words.{from_split, from_parts, two_none, three_none}

-- ---- a block, a card, a cell

module _ (ws : List ℕ) (a : ℕ) where
  block_none : none_from ws a 3 ≡ block_blank (block_from ws a)
  unfolding block_blank
  block_none = three_none ws a

  card_none : none_from ws a 5 ≡ same_card (card_from ws a) no_card
  unfolding same_card
  card_none =
      from_split ws a 3 2
      ∙ ap₂ (λ (x y : Bool). x && y) (three_none ws a) (two_none ws (a + 3) ∙ ap (λ (i : ℕ). none (word_at ws (a + 3)) && none (word_at ws i)) (omega arith))

  cell_none : none_from ws a 7 ≡ cell_blank (cell_from ws a)
  unfolding cell_blank
  cell_none =
      let x : a + 2 + 1 ≡ a + 3 = omega arith in
      let y : a + 2 + 2 ≡ a + 4 = omega arith in
      let z : a + 2 + 3 ≡ a + 5 = omega arith in
      let w : a + 2 + 3 + 1 ≡ a + 6 = omega arith in
      from_split ws a 2 5
      ∙ ap₂ (λ (s t : Bool). s && t) (two_none ws a)
      (from_split ws (a + 2) 3 2
      ∙ ap₂ (λ (s t : Bool). s && t) (three_none ws (a + 2) ∙ (λ i. none (word_at ws (a + 2)) && (none (word_at ws (x i)) && none (word_at ws (y i)))))
      (two_none ws (a + 2 + 3) ∙ (λ i. none (word_at ws (z i)) && none (word_at ws (w i)))))

-- ---- a row

-- Where no place is used, every cell is to be blank.
pub unused_blank : (l : Ledger) (s : ℕ) → all_to (places l) (λ n. cell_blank (cell_at l s n)) ≡ cells_fit l s 0
unfolding cells_fit
unused_blank l s =
    all_same (places l) (λ n. cell_blank (cell_at l s n)) (λ n. whenever (ltb n 0) (λ _. cell_fits (cell_at l s n)) (cell_blank (cell_at l s n)))
    (λ n h. sym (given_off (ltb n 0) (cell_blank (cell_at l s n)) (λ _. cell_fits (cell_at l s n)) (le-ltb n 0 (omega arith))))

module _ (ws : List ℕ) (s from : ℕ) (h : InSlot ws s) (is : from ≡ row_start (places_in ws) s) where
  abbrev z : ℕ
  z = places_in ws

  abbrev l : Ledger
  l = ledger_of ws

  blocks_none : none_from ws from 12 ≡ all_blocks block_blank (blocks_at l s)
  blocks_none =
      from_parts ws from 4 3
      ∙ all_same 4 (λ i. none_from ws (from + 3 * i) 3) (λ i. block_blank (get_or (blocks_at l s) i no_block))
      (λ i b.
      let e : from + 3 * i ≡ row_start z s + 3 * i = ap (λ (k : ℕ). k + 3 * i) is in
      block_none ws (from + 3 * i) ∙ ap (λ (k : ℕ). block_blank (block_from ws k)) e ∙ ap (λ (k : Block). block_blank k) (sym (block_words z ws s i h.slot b)))
      ∙ ap (λ (k : ℕ). all_to k (λ i. block_blank (get_or (blocks_at l s) i no_block))) (sym ((ledger_shaped ws).blocks s h.slot))
      ∙ sym (all_places block_blank (blocks_at l s))

  marks_none : none_from ws (from + 12) 3 ≡ (none (row_at l s).timed_out && (none (row_at l s).final && none (row_at l s).clash))
  marks_none =
      let w : from + 12 ≡ row_start z s + 12 = ap (λ (k : ℕ). k + 12) is in
      let x : from + 12 + 1 ≡ row_start z s + 13 = omega (arith, is) in
      let y : from + 12 + 2 ≡ row_start z s + 14 = omega (arith, is) in
      three_none ws (from + 12)
      ∙ (λ i. none ((ap (word_at ws) w ∙ timed_out_read ws s h) i) && (none ((ap (word_at ws) x ∙ final_read ws s h) i) && none ((ap (word_at ws) y ∙ clash_read ws s h) i)))

  five_none : (a : ℕ) → a ≡ from + 15 → none_from ws a 5 ≡ same_card (row_at l s).card no_card
  five_none a e = card_none ws a ∙ ap (λ (t : Tally). same_card t no_card) (card_read ws s a h (e ∙ ap (λ (k : ℕ). k + 15) is))

  certificates_none : (a n p w : ℕ) → KeptAt ws s 0 a → p ≡ places l → w ≡ mask_words p → n ≡ 13 * (1 + 2 * w)
      → none_from ws a n ≡ each_kept (λ i q. kept_blank q) 0 (certificates_at l s)
  unfolding none_from
  certificates_none a n p w k e m size =
      let b = slot_blank ws s a n p w h k e m size in
      sym (ap all_none (part_table ws 0 a n b.0) ∙ none_table n (λ j. word_at ws (a + j))) ∙ b.1

  cells_none : (a : ℕ) → a ≡ row_start z s + (20 + 13 * (1 + 2 * mask_words z)) → none_from ws a (z * 7) ≡ cells_fit l s 0
  cells_none a e =
      from_parts ws a z 7
      ∙ all_same z (λ i. none_from ws (a + 7 * i) 7) (λ i. cell_blank (cell_at l s i))
      (λ i b.
      let q : a + 7 * i ≡ row_start z s + (20 + 13 * (1 + 2 * mask_words z)) + 7 * i = ap (λ (k : ℕ). k + 7 * i) e in
      cell_none ws (a + 7 * i) ∙ ap (λ (k : ℕ). cell_blank (cell_from ws k)) q ∙ ap cell_blank (sym (cell_words_lem z ws s i h.slot b)))
      ∙ ap (λ (k : ℕ). all_to k (λ i. cell_blank (cell_at l s i))) (sym (places_words z ws))
      ∙ unused_blank l s

kept_behind : (ws : List ℕ) (s k : ℕ) → KeptAt ws s 0 k → k ≡ row_start (places_in ws) s + 20
unfolding kept_start
kept_behind ws s k at = omega (arith, at.is)

pub row_starts : (ws : List ℕ) (s k : ℕ) → KeptAt ws s 0 k → 20 ≤ k
row_starts ws s k at = omega (arith, kept_behind ws s k at)

-- As code computes it: k is where the slot's certificates begin, p the places, w the words of a mask.
module _ (ws : List ℕ) (s k p w : ℕ) (h : InSlot ws s) (at : KeptAt ws s 0 k) (e : p ≡ places (ledger_of ws)) (m : w ≡ mask_words p) where
  places_are : p ≡ places_in ws
  places_are = e ∙ places_words (places_in ws) ws

  masks_are : w ≡ mask_words (places_in ws)
  masks_are = m ∙ ap mask_words places_are

  kept_from : k ≡ row_start (places_in ws) s + 20
  kept_from = kept_behind ws s k at

  pub row_room : k - 20 + (20 + 13 * (1 + 2 * w) + 7 * p) ≤ length ws
  row_room = omega (arith, kept_from, masks_are, places_are, row_inside (places_in ws) s h.slot, h.long)

  pub row_none : none_from ws (k - 20) (20 + 13 * (1 + 2 * w) + 7 * p) ≡ nothing_in (ledger_of ws) s
  unfolding nothing_in
  row_none =
      let from : ℕ = k - 20 in
      let is : from ≡ row_start (places_in ws) s = omega (arith, kept_from) in
      let c : ℕ = 13 * (1 + 2 * w) in
      let size : 20 + c + 7 * p ≡ 12 + (3 + (5 + (c + places_in ws * 7))) = omega (arith, places_are) in
      let x : from + 12 + 3 ≡ from + 15 = omega arith in
      let y : k ≡ from + 12 + 3 + 5 = omega (arith, kept_from) in
      let v : from + 12 + 3 + 5 + c ≡ row_start (places_in ws) s + (20 + 13 * (1 + 2 * mask_words (places_in ws))) = omega (arith, is, masks_are) in
      ap (none_from ws from) size
      ∙ from_split ws from 12 (3 + (5 + (c + places_in ws * 7)))
      ∙ ap₂ (λ (a b : Bool). a && b) (blocks_none ws s from h is)
      (from_split ws (from + 12) 3 (5 + (c + places_in ws * 7))
      ∙ ap₂ (λ (a b : Bool). a && b) (marks_none ws s from h is)
      (from_split ws (from + 12 + 3) 5 (c + places_in ws * 7)
      ∙ ap₂ (λ (a b : Bool). a && b) (five_none ws s from h is (from + 12 + 3) x)
      (from_split ws (from + 12 + 3 + 5) c (places_in ws * 7)
      ∙ ap₂ (λ (a b : Bool). a && b)
      (ap (λ (a : ℕ). none_from ws a c) (sym y) ∙ certificates_none ws s from h is k c p w at e m refl)
      (cells_none ws s from h is (from + 12 + 3 + 5 + c) v))))

  -- So the words that are lent as the row are all 0 exactly there.
  pub lent_none : (n : ℕ) → n ≡ 20 + 13 * (1 + 2 * w) + 7 * p → all_none (take n (drop (k - 20) ws)) ≡ nothing_in (ledger_of ws) s
  unfolding none_from
  lent_none n q =
      ap (λ (i : ℕ). all_none (take i (drop (k - 20) ws))) q
      ∙ ap all_none (part_table ws 0 (k - 20) (20 + 13 * (1 + 2 * w) + 7 * p) row_room)
      ∙ none_table (20 + 13 * (1 + 2 * w) + 7 * p) (λ j. word_at ws (k - 20 + j))
      ∙ row_none

-- A part of sixteen words or more has sixteen.
pub row_long : (ws : List ℕ) (from end n : ℕ) → 16 ≤ n → from + n ≤ length ws → end ≡ from + n → 16 ≤ length (take (end - from) (drop from ws))
row_long ws from end n h b e =
    let size : end - from ≡ n = omega arith in
    let long : length (take (end - from) (drop from ws)) ≡ n =
    ap (λ (i : ℕ). length (take i (drop from ws))) size ∙ length-take-le n (drop from ws) (omega (arith, length-drop from ws)) in
    omega (arith, long)
