-- What each word of a record is in its ledger.
use mathlib.Core.Path.{◌≡◌, refl, sym, ap, ◌∙◌}
use mathlib.Core.List.{List}
use native.Mathlib.Omega.{arith}
use Prim.Native.Nat.{ℕ, suc, ◌+◌, ◌≤◌, ◌<◌}
use lib.ListN.{length, get_or, get_or-eq_default}
use Rattle.rulebook.specs.Weights.{last_slot, windows, window_of, stake_in}
use Rattle.rulebook.specs.Ledger.{Row, no_row, no_cell, no_block, no_kept, most_blocks, most_certificates, blocks_at, certificates_at, places, row_at, cell_at}
use Rattle.rulebook.specs.WellFormed.{Shaped}
use Rattle.record.specs.Layout.{word_at, armed_start, stake_start, row_start, timeout_at, final_at, clash_at, card_start, block_start, kept_start, cell_start, places_in, mask_words, cell_from, block_from, card_from, kept_from, block_of, kept_of, cell_of, row_of, ledger_at, ledger_of, Placed, InSlot, InBlocks, InKept, InWindow}
use Rattle.record.proofs.Tables.{length_tabulate, get_d_tabulate}
use Rattle.record.proofs.Places.{node_placed}

module _ (p : ℕ) (ws : List ℕ) where
  pub count_word : (ledger_at p ws).count ≡ word_at ws 0
  unfolding ledger_at
  count_word = refl

  pub total_word : (ledger_at p ws).total ≡ word_at ws 1
  unfolding ledger_at
  total_word = refl

  pub own_word : (ledger_at p ws).own ≡ word_at ws 2
  unfolding ledger_at
  own_word = refl

  pub genesis_word : (ledger_at p ws).genesis ≡ word_at ws 3
  unfolding ledger_at
  genesis_word = refl

  pub armed_word : (w : ℕ) → w < windows → get_or (ledger_at p ws).armed w 0 ≡ word_at ws (armed_start + w)
  unfolding ledger_at
  armed_word w h = get_d_tabulate windows w (λ k. word_at ws (armed_start + k)) 0 h

  pub stake_word : (n : ℕ) → n < p → stake_in (ledger_at p ws).stakes n ≡ word_at ws (stake_start + n)
  unfolding ledger_at
  stake_word n h = get_d_tabulate p n (λ k. word_at ws (stake_start + k)) 0 h

  pub row_words_lem : (s : ℕ) → s < suc last_slot → row_at (ledger_at p ws) s ≡ row_of p ws s
  unfolding ledger_at
  row_words_lem s h = get_d_tabulate (suc last_slot) s (row_of p ws) no_row h

  pub cell_words_lem : (s n : ℕ) → s < suc last_slot → n < p → cell_at (ledger_at p ws) s n ≡ cell_of p ws s n
  cell_words_lem s n h k = ap (λ (r : Row). get_or r.cells n no_cell) (row_words_lem s h) ∙ get_d_tabulate p n (cell_of p ws s) no_cell k

  pub block_words : (s n : ℕ) → s < suc last_slot → n < most_blocks → get_or (blocks_at (ledger_at p ws) s) n no_block ≡ block_of p ws s n
  block_words s n h k = ap (λ (r : Row). get_or r.blocks n no_block) (row_words_lem s h) ∙ get_d_tabulate most_blocks n (block_of p ws s) no_block k

  pub kept_words_lem : (s n : ℕ) → s < suc last_slot → n < most_certificates → get_or (certificates_at (ledger_at p ws) s) n no_kept ≡ kept_of p ws s n
  kept_words_lem s n h k = ap (λ (r : Row). get_or r.certificates n no_kept) (row_words_lem s h) ∙ get_d_tabulate most_certificates n (kept_of p ws s) no_kept k

  shaped : Shaped (places (ledger_at p ws)) (ledger_at p ws)
  unfolding ledger_at
  shaped =
      record {
        armed = length_tabulate windows (λ w. word_at ws (armed_start + w));
        stakes = refl;
        rows = length_tabulate (suc last_slot) (row_of p ws);
        blocks = λ s h. ap (λ (r : Row). length r.blocks) (get_d_tabulate (suc last_slot) s (row_of p ws) no_row h) ∙ length_tabulate most_blocks (block_of p ws s);
        certificates = λ s h.
            ap (λ (r : Row). length r.certificates) (get_d_tabulate (suc last_slot) s (row_of p ws) no_row h) ∙ length_tabulate most_certificates (kept_of p ws s);
        cells = λ s h.
            ap (λ (r : Row). length r.cells) (get_d_tabulate (suc last_slot) s (row_of p ws) no_row h)
            ∙ length_tabulate p (cell_of p ws s)
            ∙ sym (length_tabulate p (λ n. word_at ws (stake_start + n)));
      }

-- A ledger read from words has a place for every slot, node and window.
pub ledger_shaped : (ws : List ℕ) → Shaped (places (ledger_of ws)) (ledger_of ws)
ledger_shaped ws = shaped (places_in ws) ws

-- ---- what code reads at a place that it computed

pub cell_read : (ws : List ℕ) (s n i : ℕ) → Placed ws s n → i ≡ cell_start (places_in ws) s n → cell_from ws i ≡ cell_at (ledger_of ws) s n
cell_read ws s n i h e = ap (cell_from ws) e ∙ sym (cell_words_lem (places_in ws) ws s n h.slot (node_placed ws n h.node))

-- A number past the places has no cell.
pub cell_past : (ws : List ℕ) (s n : ℕ) → InSlot ws s → places (ledger_of ws) ≤ n → no_cell ≡ cell_at (ledger_of ws) s n
cell_past ws s n h b = sym (get_or-eq_default (row_at (ledger_of ws) s).cells no_cell (omega (arith, (ledger_shaped ws).cells s h.slot)))

pub block_read : (ws : List ℕ) (s n i : ℕ) → InBlocks ws s n → i ≡ block_start (places_in ws) s n → block_from ws i ≡ get_or (blocks_at (ledger_of ws) s) n no_block
block_read ws s n i h e = ap (block_from ws) e ∙ sym (block_words (places_in ws) ws s n h.slot h.place)

pub kept_read : (ws : List ℕ) (s n i : ℕ) → InKept ws s n → i ≡ kept_start (places_in ws) s n → kept_from (mask_words (places_in ws)) ws i ≡ get_or (certificates_at (ledger_of ws) s) n no_kept
kept_read ws s n i h e = ap (kept_from (mask_words (places_in ws)) ws) e ∙ sym (kept_words_lem (places_in ws) ws s n h.slot h.place)

module _ (ws : List ℕ) (s : ℕ) (h : InSlot ws s) where
  here : row_of (places_in ws) ws s ≡ row_at (ledger_of ws) s
  here = sym (row_words_lem (places_in ws) ws s h.slot)

  pub timed_out_read : word_at ws (row_start (places_in ws) s + timeout_at) ≡ (row_at (ledger_of ws) s).timed_out
  timed_out_read = ap (λ (r : Row). r.timed_out) here

  pub final_read : word_at ws (row_start (places_in ws) s + final_at) ≡ (row_at (ledger_of ws) s).final
  final_read = ap (λ (r : Row). r.final) here

  pub clash_read : word_at ws (row_start (places_in ws) s + clash_at) ≡ (row_at (ledger_of ws) s).clash
  clash_read = ap (λ (r : Row). r.clash) here

pub card_read : (ws : List ℕ) (s i : ℕ) → InSlot ws s → i ≡ card_start (places_in ws) s → card_from ws i ≡ (row_at (ledger_of ws) s).card
card_read ws s i h e = ap (card_from ws) e ∙ ap (λ (r : Row). r.card) (sym (row_words_lem (places_in ws) ws s h.slot))

-- A slot's window is one of the four.
pub window_small : (s : ℕ) → 1 ≤ s → s < suc last_slot → window_of s < windows
unfolding window_of
window_small s a b = omega arith

pub armed_read : (ws : List ℕ) (s i : ℕ) → InWindow ws s → i ≡ armed_start + window_of s → word_at ws i ≡ get_or (ledger_of ws).armed (window_of s) 0
armed_read ws s i h e = ap (word_at ws) e ∙ sym (armed_word (places_in ws) ws (window_of s) (window_small s h.later h.slot))
