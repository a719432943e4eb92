-- Storing words: only the place that is named changes in the ledger. The number of places is any p; a store keeps it.
use mathlib.Core.Path.{◌≡◌, sym, ap, ◌∙◌}
use mathlib.Core.List.{List, ◌∷◌, ◌++◌}
use mathlib.Core.Logic.{⊎_elim, ◌⊎◌, inl, inr}
use Prim.Native.Nat.{ℕ, suc, ◌+◌, ◌*◌, ◌<◌, ◌≤◌}
use native.Mathlib.Omega.{arith}
use native.Mathlib.Nat.{add-zero}
use lib.ListN.{length, get_or, set, length-set, length-append, get_or-append}
use lib.Seq.{get_or-set_same, get_or-set_other, get_or-append-add, sets, length-sets}
use Rattle.rulebook.specs.declared.Cell.{Cell}
use Rattle.rulebook.specs.declared.Block.{Block}
use Rattle.rulebook.specs.declared.Tally.{Tally}
use Rattle.rulebook.specs.Weights.{last_slot, windows, window_of}
use Rattle.rulebook.specs.Certificates.{Kept}
use Rattle.rulebook.specs.Ledger.{Ledger, Row, no_row, no_cell, no_block, no_kept, most_blocks, most_certificates, row_at, cell_at, blocks_at, certificates_at, put_row, put_cell, put_card, card_of, put_blocks, put_certificates, put_timed_out, put_final, put_clash, put_armed}
use Rattle.rulebook.specs.Packets.{joined}
use Rattle.record.specs.Layout.{word_at, armed_start, stake_start, kept_at, row_head, row_words, block_words, card_words, kept_words, mask_words, cell_words, row_start, timeout_at, final_at, clash_at, card_start, block_start, kept_start, cell_start, record_words, places_in, tabulate, mask_from, cell_from, block_from, card_from, kept_from, block_of, kept_of, cell_of, row_of, ledger_at, ledger_of, Placed, InSlot, InBlocks, InKept, InWindow}
use Rattle.record.specs.Spelling.{spell_cell, spell_block, spell_card}
use Rattle.record.proofs.Tables.{lt_or_gt, tabulate_same, tabulate_set, tabulate_back, sets_out, sets_in}
use Rattle.record.proofs.Places.{head_before, row_later, row_inside, kept_behind, kept_later, kept_inside, node_placed, same_shape}
use Rattle.record.proofs.Reading.{row_words_lem, window_small}

-- Two lists of words agree outside the run from a to e.
abbrev pub Apart : List ℕ → List ℕ → ℕ → ℕ → Type 0
Apart ws' ws a e = (k : ℕ) → (k < a) ⊎ (e ≤ k) → word_at ws' k ≡ word_at ws k

module _ (p : ℕ) (ws' ws : List ℕ) (a e : ℕ) (h : Apart ws' ws a e) where
  pub cell_kept : (b : ℕ) → (b + cell_words ≤ a) ⊎ (e ≤ b) → cell_from ws' b ≡ cell_from ws b
  cell_kept b q =
      let g : (j : ℕ) → j < cell_words → word_at ws' (b + j) ≡ word_at ws (b + j) = (λ j l. h (b + j) (⊎_elim (λ o. inl (omega arith)) (λ o. inr (omega arith)) q)) in
      λ i. record {
        notar = h b (⊎_elim (λ o. inl (omega arith)) (λ o. inr (omega arith)) q) i;
        skip = g 1 (omega arith) i;
        fallback1 = g 2 (omega arith) i;
        fallback2 = g 3 (omega arith) i;
        fallback3 = g 4 (omega arith) i;
        skipfallback = g 5 (omega arith) i;
        finalvote = g 6 (omega arith) i;
      }

  pub cells_kept : (s : ℕ) → (row_start p s + row_words p ≤ a) ⊎ (e ≤ row_start p s + row_head p) → tabulate p (cell_of p ws' s) ≡ tabulate p (cell_of p ws s)
  cells_kept s q =
      tabulate_same p (cell_of p ws' s) (cell_of p ws s)
      (λ n b. cell_kept (cell_start p s n) (⊎_elim (λ o. inl (omega arith)) (λ o. inr (omega arith)) q))

  block_kept_lem : (b : ℕ) → (b + block_words ≤ a) ⊎ (e ≤ b) → block_from ws' b ≡ block_from ws b
  block_kept_lem b q =
      let g : (j : ℕ) → j < block_words → word_at ws' (b + j) ≡ word_at ws (b + j) = (λ j l. h (b + j) (⊎_elim (λ o. inl (omega arith)) (λ o. inr (omega arith)) q)) in
      λ i. record {
        number = h b (⊎_elim (λ o. inl (omega arith)) (λ o. inr (omega arith)) q) i;
        parentslot = record { 0 = g 1 (omega arith) i };
        parent = g 2 (omega arith) i;
      }

  card_kept : (b : ℕ) → (b + card_words ≤ a) ⊎ (e ≤ b) → card_from ws' b ≡ card_from ws b
  card_kept b q =
      let g : (j : ℕ) → j < card_words → word_at ws' (b + j) ≡ word_at ws (b + j) = (λ j l. h (b + j) (⊎_elim (λ o. inl (omega arith)) (λ o. inr (omega arith)) q)) in
      let z : word_at ws' b ≡ word_at ws b = h b (⊎_elim (λ o. inl (omega arith)) (λ o. inr (omega arith)) q) in
      λ i. card_of (z i) (g 1 (omega arith) i) (g 2 (omega arith) i) (g 3 (omega arith) i) (g 4 (omega arith) i)

  blocks_kept_lem : (s : ℕ) → (row_start p s + timeout_at ≤ a) ⊎ (e ≤ row_start p s) → tabulate most_blocks (block_of p ws' s) ≡ tabulate most_blocks (block_of p ws s)
  blocks_kept_lem s q =
      tabulate_same most_blocks (block_of p ws' s) (block_of p ws s)
      (λ n b. block_kept_lem (block_start p s n) (⊎_elim (λ o. inl (omega arith)) (λ o. inr (omega arith)) q))

  mask_kept : (b w : ℕ) → (b + w ≤ a) ⊎ (e ≤ b) → mask_from w ws' b ≡ mask_from w ws b
  mask_kept b w q =
      ap joined
      (tabulate_same w (λ j. word_at ws' (b + j)) (λ j. word_at ws (b + j)) (λ j l. h (b + j) (⊎_elim (λ o. inl (omega arith)) (λ o. inr (omega arith)) q)))

  kept_kept : (b w : ℕ) → (b + (1 + 2 * w) ≤ a) ⊎ (e ≤ b) → kept_from w ws' b ≡ kept_from w ws b
  kept_kept b w q =
      λ i. record {
        block = h b (⊎_elim (λ o. inl (omega arith)) (λ o. inr (omega arith)) q) i;
        maska = mask_kept (b + 1) w (⊎_elim (λ o. inl (omega arith)) (λ o. inr (omega arith)) q) i;
        maskb = mask_kept (b + 1 + w) w (⊎_elim (λ o. inl (omega arith)) (λ o. inr (omega arith)) q) i;
      }

  certificates_kept : (s : ℕ) → (row_start p s + row_head p ≤ a) ⊎ (e ≤ row_start p s + kept_at) → tabulate most_certificates (kept_of p ws' s) ≡ tabulate most_certificates (kept_of p ws s)
  certificates_kept s q =
      tabulate_same most_certificates (kept_of p ws' s) (kept_of p ws s)
      (λ n b. kept_kept (kept_start p s n) (mask_words p) (⊎_elim (λ o. inl (omega (arith, kept_inside p s n b))) (λ o. inr (omega (arith, kept_behind p s n))) q))

  pub row_kept : (s : ℕ) → (row_start p s + row_words p ≤ a) ⊎ (e ≤ row_start p s) → row_of p ws' s ≡ row_of p ws s
  row_kept s q =
      let g : (j : ℕ) → j < row_words p → word_at ws' (row_start p s + j) ≡ word_at ws (row_start p s + j) = (λ j l. h (row_start p s + j) (⊎_elim (λ o. inl (omega arith)) (λ o. inr (omega arith)) q)) in
      λ i. record {
        blocks = blocks_kept_lem s (⊎_elim (λ o. inl (omega arith)) (λ o. inr o) q) i;
        timed_out = g timeout_at (omega arith) i;
        final = g final_at (omega arith) i;
        clash = g clash_at (omega arith) i;
        card = card_kept (card_start p s) (⊎_elim (λ o. inl (omega arith)) (λ o. inr (omega arith)) q) i;
        certificates = certificates_kept s (⊎_elim (λ o. inl (omega arith)) (λ o. inr (omega arith)) q) i;
        cells = cells_kept s (⊎_elim (λ o. inl o) (λ o. inr (omega arith)) q) i;
      }

-- A change in row s alone.
pub put_row_lem : (p : ℕ) (ws' ws : List ℕ) (s a e : ℕ) (r : Row) → Apart ws' ws a e → s < suc last_slot → row_start p s ≤ a → e ≤ row_start p s + row_words p → row_of p ws' s ≡ r
    → ledger_at p ws' ≡ put_row (ledger_at p ws) s r
unfolding ledger_at
put_row_lem p ws' ws s a e r h b lo hi same =
    let first = head_before p s in
    λ i. record {
      count = h 0 (inl (omega arith)) i;
      total = h 1 (inl (omega arith)) i;
      own = h 2 (inl (omega arith)) i;
      genesis = h 3 (inl (omega arith)) i;
      armed = tabulate_same windows (λ w. word_at ws' (armed_start + w)) (λ w. word_at ws (armed_start + w)) (λ k b. h (armed_start + k) (inl (omega arith))) i;
      stakes = tabulate_same p (λ n. word_at ws' (stake_start + n)) (λ n. word_at ws (stake_start + n)) (λ k b. h (stake_start + k) (inl (omega arith))) i;
      rows = tabulate_set (suc last_slot) s (row_of p ws) (row_of p ws') r same
          (λ k b q. row_kept p ws' ws a e h k (⊎_elim (λ o. inl (omega (arith, row_later p k s o))) (λ o. inr (omega (arith, row_later p s k o))) (lt_or_gt k s q))) i;
    }

-- ---- a cell

pub cell_in : (ws : List ℕ) (at : ℕ) (c : Cell) → at + cell_words ≤ length ws → cell_from (sets ws at (spell_cell c)) at ≡ c
cell_in ws at c b =
    let f : (j : ℕ) → j < cell_words → word_at (sets ws at (spell_cell c)) (at + j) ≡ get_or (spell_cell c) j 0 = (λ j l. sets_in (spell_cell c) ws at j 0 l b) in
    let z : word_at (sets ws at (spell_cell c)) at ≡ c.notar = rw add-zero at (f 0 (omega arith)) in
    λ i. record {
      notar = z i;
      skip = f 1 (omega arith) i;
      fallback1 = f 2 (omega arith) i;
      fallback2 = f 3 (omega arith) i;
      fallback3 = f 4 (omega arith) i;
      skipfallback = f 5 (omega arith) i;
      finalvote = f 6 (omega arith) i;
    }

pub cell_put : (p : ℕ) (ws : List ℕ) (s n : ℕ) (c : Cell) → length ws ≡ record_words p → s < suc last_slot → n < p
    → ledger_at p (sets ws (cell_start p s n) (spell_cell c)) ≡ put_cell (ledger_at p ws) s n c
cell_put p ws s n c long slot node =
    let ws' : List ℕ = sets ws (cell_start p s n) (spell_cell c) in
    let h : Apart ws' ws (cell_start p s n) (cell_start p s n + cell_words) = (λ k o. sets_out (spell_cell c) ws (cell_start p s n) k 0 o) in
    let last = row_inside p s slot in
    put_row_lem p ws' ws s (cell_start p s n) (cell_start p s n + cell_words)
    (record { blocks = (row_at (ledger_at p ws) s).blocks; timed_out = (row_at (ledger_at p ws) s).timed_out; final = (row_at (ledger_at p ws) s).final; clash = (row_at (ledger_at p ws) s).clash; card = (row_at (ledger_at p ws) s).card; certificates = (row_at (ledger_at p ws) s).certificates; cells = set (row_at (ledger_at p ws) s).cells n c })
    h slot (omega arith) (omega arith)
    (rw (row_words_lem p ws s slot)
    (λ i. record {
      blocks = blocks_kept_lem p ws' ws (cell_start p s n) (cell_start p s n + cell_words) h s (inl (omega arith)) i;
      timed_out = h (row_start p s + timeout_at) (inl (omega arith)) i;
      final = h (row_start p s + final_at) (inl (omega arith)) i;
      clash = h (row_start p s + clash_at) (inl (omega arith)) i;
      card = card_kept p ws' ws (cell_start p s n) (cell_start p s n + cell_words) h (card_start p s) (inl (omega arith)) i;
      certificates = certificates_kept p ws' ws (cell_start p s n) (cell_start p s n + cell_words) h s (inl (omega arith)) i;
      cells = tabulate_set p n (cell_of p ws s) (cell_of p ws' s) c (cell_in ws (cell_start p s n) c (omega arith))
          (λ k b q. cell_kept p ws' ws (cell_start p s n) (cell_start p s n + cell_words) h (cell_start p s k) (⊎_elim (λ o. inl (omega arith)) (λ o. inr (omega arith)) (lt_or_gt k n q))) i;
    }))

pub cell_stored : (ws : List ℕ) (s n i : ℕ) (c : Cell) → Placed ws s n → i ≡ cell_start (places_in ws) s n → ledger_of (sets ws i (spell_cell c)) ≡ put_cell (ledger_of ws) s n c
cell_stored ws s n i c h e =
    same_shape ws (sets ws i (spell_cell c)) (length-sets ws i (spell_cell c))
    ∙ ap (λ (k : ℕ). ledger_at (places_in ws) (sets ws k (spell_cell c))) e
    ∙ cell_put (places_in ws) ws s n c h.long h.slot (node_placed ws n h.node)

-- ---- a row's head

block_in : (ws : List ℕ) (at : ℕ) (b : Block) → at + block_words ≤ length ws → block_from (sets ws at (spell_block b)) at ≡ b
block_in ws at b k =
    let f : (j : ℕ) → j < block_words → word_at (sets ws at (spell_block b)) (at + j) ≡ get_or (spell_block b) j 0 = (λ j l. sets_in (spell_block b) ws at j 0 l k) in
    let z : word_at (sets ws at (spell_block b)) at ≡ b.number = rw add-zero at (f 0 (omega arith)) in
    λ i. record { number = z i; parentslot = record { 0 = f 1 (omega arith) i }; parent = f 2 (omega arith) i }

kept_into : (ws : List ℕ) (at w b : ℕ) (xs ys : List ℕ) → length xs ≡ w → length ys ≡ w → at + (1 + 2 * w) ≤ length ws
    → kept_from w (sets ws at (b ∷ (xs ++ ys))) at ≡ record { block = b; maska = joined xs; maskb = joined ys }
kept_into ws at w b xs ys la lb k =
    let vs : List ℕ = b ∷ (xs ++ ys) in
    let many : length vs ≡ 1 + 2 * w = ap suc (length-append xs ys) ∙ omega arith in
    let f : (j : ℕ) → j < 1 + 2 * w → word_at (sets ws at vs) (at + j) ≡ word_at vs j = (λ j l. sets_in vs ws at j 0 (omega arith) (omega arith)) in
    let z : word_at (sets ws at vs) at ≡ b = rw add-zero at (f 0 (omega arith)) in
    let a : (j : ℕ) → j < w → word_at (sets ws at vs) (at + 1 + j) ≡ word_at xs j =
    (λ j l. let q : at + 1 + j ≡ at + suc j = omega arith in
    ap (word_at (sets ws at vs)) q ∙ f (suc j) (omega arith) ∙ get_or-append xs ys 0 j (omega arith)) in
    let c : (j : ℕ) → j < w → word_at (sets ws at vs) (at + 1 + w + j) ≡ word_at ys j =
    (λ j l. let q : at + 1 + w + j ≡ at + suc (length xs + j) = omega arith in
    ap (word_at (sets ws at vs)) q ∙ f (suc (length xs + j)) (omega arith) ∙ get_or-append-add xs ys j 0) in
    λ i. record {
      block = z i;
      maska = ap joined (tabulate_back xs 0 (λ j. word_at (sets ws at vs) (at + 1 + j)) w la a) i;
      maskb = ap joined (tabulate_back ys 0 (λ j. word_at (sets ws at vs) (at + 1 + w + j)) w lb c) i;
    }

module _ (p : ℕ) (ws : List ℕ) (s : ℕ) (long : length ws ≡ record_words p) (slot : s < suc last_slot) where
  here : row_of p ws s ≡ row_at (ledger_at p ws) s
  here = sym (row_words_lem p ws s slot)

  -- A change in the head before the certificates alone.
  head_put : (ws' : List ℕ) (a e : ℕ) (bs : List Block) (t f c : ℕ) (d : Tally) → Apart ws' ws a e → row_start p s ≤ a → e ≤ row_start p s + kept_at
      → tabulate most_blocks (block_of p ws' s) ≡ bs → word_at ws' (row_start p s + timeout_at) ≡ t → word_at ws' (row_start p s + final_at) ≡ f → word_at ws' (row_start p s + clash_at) ≡ c
      → card_from ws' (card_start p s) ≡ d
      → ledger_at p ws' ≡ put_row (ledger_at p ws) s (record { blocks = bs; timed_out = t; final = f; clash = c; card = d; certificates = (row_at (ledger_at p ws) s).certificates; cells = (row_at (ledger_at p ws) s).cells })
  head_put ws' a e bs t f c d h lo hi eb et ef ec ed =
      put_row_lem p ws' ws s a e (record { blocks = bs; timed_out = t; final = f; clash = c; card = d; certificates = (row_at (ledger_at p ws) s).certificates; cells = (row_at (ledger_at p ws) s).cells }) h slot lo (omega arith)
      (rw (row_words_lem p ws s slot)
      (λ i. record { blocks = eb i; timed_out = et i; final = ef i; clash = ec i; card = ed i; certificates = certificates_kept p ws' ws a e h s (inr hi) i; cells = cells_kept p ws' ws a e h s (inr (omega arith)) i }))

  block_put : (n : ℕ) (b : Block) → n < most_blocks → ledger_at p (sets ws (block_start p s n) (spell_block b)) ≡ put_blocks (ledger_at p ws) s (set (blocks_at (ledger_at p ws) s) n b)
  block_put n b place =
      let ws' : List ℕ = sets ws (block_start p s n) (spell_block b) in
      let last = row_inside p s slot in
      let h : Apart ws' ws (block_start p s n) (block_start p s n + block_words) = (λ k o. sets_out (spell_block b) ws (block_start p s n) k 0 o) in
      head_put ws' (block_start p s n) (block_start p s n + block_words) (set (blocks_at (ledger_at p ws) s) n b) (row_at (ledger_at p ws) s).timed_out (row_at (ledger_at p ws) s).final (row_at (ledger_at p ws) s).clash (row_at (ledger_at p ws) s).card h (omega arith) (omega arith)
      (tabulate_set most_blocks n (block_of p ws s) (block_of p ws' s) b (block_in ws (block_start p s n) b (omega arith))
      (λ k l q. block_kept_lem p ws' ws (block_start p s n) (block_start p s n + block_words) h (block_start p s k) (⊎_elim (λ o. inl (omega arith)) (λ o. inr (omega arith)) (lt_or_gt k n q)))
      ∙ ap (λ (r : Row). set r.blocks n b) here)
      (h (row_start p s + timeout_at) (inr (omega arith)) ∙ ap (λ (r : Row). r.timed_out) here)
      (h (row_start p s + final_at) (inr (omega arith)) ∙ ap (λ (r : Row). r.final) here)
      (h (row_start p s + clash_at) (inr (omega arith)) ∙ ap (λ (r : Row). r.clash) here)
      (card_kept p ws' ws (block_start p s n) (block_start p s n + block_words) h (card_start p s) (inr (omega arith)) ∙ ap (λ (r : Row). r.card) here)

  -- One word behind the blocks stored: they stay, and so does the card behind it.
  set_apart : (i v : ℕ) → Apart (set ws i v) ws i (i + 1)
  set_apart i v k o = get_or-set_other ws i k v 0 (⊎_elim (λ q e. omega arith) (λ q e. omega arith) o)

  blocks_stay : (i v : ℕ) → row_start p s + timeout_at ≤ i → tabulate most_blocks (block_of p (set ws i v) s) ≡ blocks_at (ledger_at p ws) s
  blocks_stay i v h = blocks_kept_lem p (set ws i v) ws i (i + 1) (set_apart i v) s (inl h) ∙ ap (λ (r : Row). r.blocks) here

  card_stays : (i v : ℕ) → i < card_start p s → card_from (set ws i v) (card_start p s) ≡ (row_at (ledger_at p ws) s).card
  card_stays i v h = card_kept p (set ws i v) ws i (i + 1) (set_apart i v) (card_start p s) (inr (omega arith)) ∙ ap (λ (r : Row). r.card) here

  timed_out_in_lem : ledger_at p (set ws (row_start p s + timeout_at) 1) ≡ put_timed_out (ledger_at p ws) s
  timed_out_in_lem =
      let last = row_inside p s slot in
      head_put (set ws (row_start p s + timeout_at) 1) (row_start p s + timeout_at) (row_start p s + timeout_at + 1) (blocks_at (ledger_at p ws) s) 1 (row_at (ledger_at p ws) s).final (row_at (ledger_at p ws) s).clash (row_at (ledger_at p ws) s).card (set_apart (row_start p s + timeout_at) 1) (omega arith) (omega arith)
      (blocks_stay (row_start p s + timeout_at) 1 (omega arith))
      (get_or-set_same ws (row_start p s + timeout_at) 1 0 (omega arith))
      (set_apart (row_start p s + timeout_at) 1 (row_start p s + final_at) (inr (omega arith)) ∙ ap (λ (r : Row). r.final) here)
      (set_apart (row_start p s + timeout_at) 1 (row_start p s + clash_at) (inr (omega arith)) ∙ ap (λ (r : Row). r.clash) here)
      (card_stays (row_start p s + timeout_at) 1 (omega arith))

  final_in : (b : ℕ) → ledger_at p (set ws (row_start p s + final_at) b) ≡ put_final (ledger_at p ws) s b
  final_in b =
      let last = row_inside p s slot in
      head_put (set ws (row_start p s + final_at) b) (row_start p s + final_at) (row_start p s + final_at + 1) (blocks_at (ledger_at p ws) s) (row_at (ledger_at p ws) s).timed_out b (row_at (ledger_at p ws) s).clash (row_at (ledger_at p ws) s).card (set_apart (row_start p s + final_at) b) (omega arith) (omega arith)
      (blocks_stay (row_start p s + final_at) b (omega arith))
      (set_apart (row_start p s + final_at) b (row_start p s + timeout_at) (inl (omega arith)) ∙ ap (λ (r : Row). r.timed_out) here)
      (get_or-set_same ws (row_start p s + final_at) b 0 (omega arith))
      (set_apart (row_start p s + final_at) b (row_start p s + clash_at) (inr (omega arith)) ∙ ap (λ (r : Row). r.clash) here)
      (card_stays (row_start p s + final_at) b (omega arith))

  clash_in : ledger_at p (set ws (row_start p s + clash_at) 1) ≡ put_clash (ledger_at p ws) s
  clash_in =
      let last = row_inside p s slot in
      head_put (set ws (row_start p s + clash_at) 1) (row_start p s + clash_at) (row_start p s + clash_at + 1) (blocks_at (ledger_at p ws) s) (row_at (ledger_at p ws) s).timed_out (row_at (ledger_at p ws) s).final 1 (row_at (ledger_at p ws) s).card (set_apart (row_start p s + clash_at) 1) (omega arith) (omega arith)
      (blocks_stay (row_start p s + clash_at) 1 (omega arith))
      (set_apart (row_start p s + clash_at) 1 (row_start p s + timeout_at) (inl (omega arith)) ∙ ap (λ (r : Row). r.timed_out) here)
      (set_apart (row_start p s + clash_at) 1 (row_start p s + final_at) (inl (omega arith)) ∙ ap (λ (r : Row). r.final) here)
      (get_or-set_same ws (row_start p s + clash_at) 1 0 (omega arith))
      (card_stays (row_start p s + clash_at) 1 (omega arith))

  -- The card's five words.
  card_in : (t : Tally) → ledger_at p (sets ws (card_start p s) (spell_card t)) ≡ put_card (ledger_at p ws) s t
  card_in t =
      let ws' : List ℕ = sets ws (card_start p s) (spell_card t) in
      let last = row_inside p s slot in
      let f : (j : ℕ) → j < card_words → word_at ws' (card_start p s + j) ≡ get_or (spell_card t) j 0 = (λ j l. sets_in (spell_card t) ws (card_start p s) j 0 l (omega arith)) in
      let z : word_at ws' (card_start p s) ≡ t.skip.0 = rw add-zero at (f 0 (omega arith)) in
      let h : Apart ws' ws (card_start p s) (card_start p s + card_words) = (λ k o. sets_out (spell_card t) ws (card_start p s) k 0 o) in
      head_put ws' (card_start p s) (card_start p s + card_words) (blocks_at (ledger_at p ws) s) (row_at (ledger_at p ws) s).timed_out (row_at (ledger_at p ws) s).final (row_at (ledger_at p ws) s).clash t h (omega arith) (omega arith)
      (blocks_kept_lem p ws' ws (card_start p s) (card_start p s + card_words) h s (inl (omega arith)) ∙ ap (λ (r : Row). r.blocks) here)
      (h (row_start p s + timeout_at) (inl (omega arith)) ∙ ap (λ (r : Row). r.timed_out) here)
      (h (row_start p s + final_at) (inl (omega arith)) ∙ ap (λ (r : Row). r.final) here)
      (h (row_start p s + clash_at) (inl (omega arith)) ∙ ap (λ (r : Row). r.clash) here)
      (λ i. card_of (z i) (f 1 (omega arith) i) (f 2 (omega arith) i) (f 3 (omega arith) i) (f 4 (omega arith) i))

  -- The words of a certificate's place: its block, w words of one mask, w of the other.
  kept_in : (n b : ℕ) (xs ys : List ℕ) → n < most_certificates → length xs ≡ mask_words p → length ys ≡ mask_words p
      → ledger_at p (sets ws (kept_start p s n) (b ∷ (xs ++ ys)))
      ≡ put_certificates (ledger_at p ws) s (set (certificates_at (ledger_at p ws) s) n (record { block = b; maska = joined xs; maskb = joined ys }))
  kept_in n b xs ys place la lb =
      let at = kept_start p s n in
      let vs : List ℕ = b ∷ (xs ++ ys) in
      let ws' : List ℕ = sets ws at vs in
      let last = row_inside p s slot in
      let inside = kept_inside p s n place in
      let behind = kept_behind p s n in
      let many : length vs ≡ kept_words p = ap suc (length-append xs ys) ∙ omega arith in
      let h : Apart ws' ws at (at + kept_words p) = (λ k o. sets_out vs ws at k 0 (⊎_elim (λ q. inl q) (λ q. inr (omega arith)) o)) in
      put_row_lem p ws' ws s at (at + kept_words p)
      (record { blocks = (row_at (ledger_at p ws) s).blocks; timed_out = (row_at (ledger_at p ws) s).timed_out; final = (row_at (ledger_at p ws) s).final; clash = (row_at (ledger_at p ws) s).clash; card = (row_at (ledger_at p ws) s).card; certificates = set (row_at (ledger_at p ws) s).certificates n (record { block = b; maska = joined xs; maskb = joined ys }); cells = (row_at (ledger_at p ws) s).cells })
      h slot (omega arith) (omega arith)
      (rw (row_words_lem p ws s slot)
      (λ i. record {
        blocks = blocks_kept_lem p ws' ws at (at + kept_words p) h s (inl (omega arith)) i;
        timed_out = h (row_start p s + timeout_at) (inl (omega arith)) i;
        final = h (row_start p s + final_at) (inl (omega arith)) i;
        clash = h (row_start p s + clash_at) (inl (omega arith)) i;
        card = card_kept p ws' ws at (at + kept_words p) h (card_start p s) (inl (omega arith)) i;
        certificates = tabulate_set most_certificates n (kept_of p ws s) (kept_of p ws' s) (record { block = b; maska = joined xs; maskb = joined ys })
            (kept_into ws at (mask_words p) b xs ys la lb (omega arith))
            (λ k l q. kept_kept p ws' ws at (at + kept_words p) h (kept_start p s k) (mask_words p)
            (⊎_elim (λ o. inl (kept_later p s k n o)) (λ o. inr (kept_later p s n k o)) (lt_or_gt k n q))) i;
        cells = cells_kept p ws' ws at (at + kept_words p) h s (inr (omega arith)) i;
      }))

-- The same at a place that code computed.
pub kept_stored : (ws : List ℕ) (s n i b : ℕ) (xs ys : List ℕ) → InKept ws s n → i ≡ kept_start (places_in ws) s n → length xs ≡ mask_words (places_in ws) → length ys ≡ mask_words (places_in ws)
    → ledger_of (sets ws i (b ∷ (xs ++ ys))) ≡ put_certificates (ledger_of ws) s (set (certificates_at (ledger_of ws) s) n (record { block = b; maska = joined xs; maskb = joined ys }))
kept_stored ws s n i b xs ys h e la lb =
    same_shape ws (sets ws i (b ∷ (xs ++ ys))) (length-sets ws i (b ∷ (xs ++ ys)))
    ∙ ap (λ (k : ℕ). ledger_at (places_in ws) (sets ws k (b ∷ (xs ++ ys)))) e
    ∙ kept_in (places_in ws) ws s h.long h.slot n b xs ys h.place la lb

pub block_stored : (ws : List ℕ) (s n i : ℕ) (b : Block) → InBlocks ws s n → i ≡ block_start (places_in ws) s n
    → ledger_of (sets ws i (spell_block b)) ≡ put_blocks (ledger_of ws) s (set (blocks_at (ledger_of ws) s) n b)
block_stored ws s n i b h e =
    same_shape ws (sets ws i (spell_block b)) (length-sets ws i (spell_block b))
    ∙ ap (λ (k : ℕ). ledger_at (places_in ws) (sets ws k (spell_block b))) e
    ∙ block_put (places_in ws) ws s h.long h.slot n b h.place

pub card_put : (ws : List ℕ) (s i : ℕ) (t : Tally) → InSlot ws s → i ≡ card_start (places_in ws) s → ledger_of (sets ws i (spell_card t)) ≡ put_card (ledger_of ws) s t
card_put ws s i t h e =
    same_shape ws (sets ws i (spell_card t)) (length-sets ws i (spell_card t))
    ∙ ap (λ (k : ℕ). ledger_at (places_in ws) (sets ws k (spell_card t))) e
    ∙ card_in (places_in ws) ws s h.long h.slot t

module _ (ws : List ℕ) (s : ℕ) (h : InSlot ws s) where
  abbrev put_at : ℕ → ℕ → List ℕ
  put_at k v = set ws (row_start (places_in ws) s + k) v

  shape : (k v : ℕ) → ledger_of (put_at k v) ≡ ledger_at (places_in ws) (put_at k v)
  shape k v = same_shape ws (put_at k v) (length-set ws (row_start (places_in ws) s + k) v)

  pub timed_out_put : ledger_of (put_at timeout_at 1) ≡ put_timed_out (ledger_of ws) s
  timed_out_put = shape timeout_at 1 ∙ timed_out_in_lem (places_in ws) ws s h.long h.slot

  pub final_put : (b : ℕ) → ledger_of (put_at final_at b) ≡ put_final (ledger_of ws) s b
  final_put b = shape final_at b ∙ final_in (places_in ws) ws s h.long h.slot b

  pub clash_put : ledger_of (put_at clash_at 1) ≡ put_clash (ledger_of ws) s
  clash_put = shape clash_at 1 ∙ clash_in (places_in ws) ws s h.long h.slot

-- ---- the armed windows

armed_in_lem : (p : ℕ) (ws : List ℕ) (s : ℕ) → length ws ≡ record_words p → window_of s < windows → ledger_at p (set ws (armed_start + window_of s) 1) ≡ put_armed (ledger_at p ws) s
unfolding ledger_at
armed_in_lem p ws s long small =
    let ws' : List ℕ = set ws (armed_start + window_of s) 1 in
    let first = head_before p (suc last_slot) in
    let h : Apart ws' ws (armed_start + window_of s) (armed_start + window_of s + 1) =
    (λ k o. get_or-set_other ws (armed_start + window_of s) k 1 0 (⊎_elim (λ q e. omega arith) (λ q e. omega arith) o)) in
    λ i. record {
      count = h 0 (inl (omega arith)) i;
      total = h 1 (inl (omega arith)) i;
      own = h 2 (inl (omega arith)) i;
      genesis = h 3 (inl (omega arith)) i;
      armed = tabulate_set windows (window_of s) (λ k. word_at ws (armed_start + k)) (λ k. word_at ws' (armed_start + k)) 1
          (get_or-set_same ws (armed_start + window_of s) 1 0 (omega arith))
          (λ k b q. h (armed_start + k) (⊎_elim (λ o. inl (omega arith)) (λ o. inr (omega arith)) (lt_or_gt k (window_of s) q))) i;
      stakes = tabulate_same p (λ n. word_at ws' (stake_start + n)) (λ n. word_at ws (stake_start + n)) (λ k b. h (stake_start + k) (inr (omega arith))) i;
      rows = tabulate_same (suc last_slot) (row_of p ws') (row_of p ws)
          (λ k b. row_kept p ws' ws (armed_start + window_of s) (armed_start + window_of s + 1) h k (inr (omega (arith, head_before p k)))) i;
    }

pub armed_put : (ws : List ℕ) (s i : ℕ) → InWindow ws s → i ≡ armed_start + window_of s → ledger_of (set ws i 1) ≡ put_armed (ledger_of ws) s
armed_put ws s i h e =
    same_shape ws (set ws i 1) (length-set ws i 1)
    ∙ ap (λ (k : ℕ). ledger_at (places_in ws) (set ws k 1)) e
    ∙ armed_in_lem (places_in ws) ws s h.long (window_small s h.later h.slot)

-- ---- what is not named stays

-- Whatever is put into slot s's row, slot t's stays.
pub row_other : (l : Ledger) (s t : ℕ) (r : Row) → (t ≡ s → ⊥) → row_at (put_row l s r) t ≡ row_at l t
row_other l s t r q = get_or-set_other l.rows s t r no_row q

-- A block put into one place of a row: the other places stay.
pub block_other : (l : Ledger) (s n m : ℕ) (b : Block) → s < length l.rows → (m ≡ n → ⊥)
    → get_or (blocks_at (put_blocks l s (set (blocks_at l s) n b)) s) m no_block ≡ get_or (blocks_at l s) m no_block
block_other l s n m b h q =
    ap (λ (r : Row). get_or r.blocks m no_block) (get_or-set_same l.rows s (record { blocks = set (row_at l s).blocks n b; timed_out = (row_at l s).timed_out; final = (row_at l s).final; clash = (row_at l s).clash; card = (row_at l s).card; certificates = (row_at l s).certificates; cells = (row_at l s).cells }) no_row h)
    ∙ get_or-set_other (row_at l s).blocks n m b no_block q

-- A certificate put into one place of a row: the other places stay.
pub kept_other : (l : Ledger) (s n m : ℕ) (q : Kept) → s < length l.rows → (m ≡ n → ⊥)
    → get_or (certificates_at (put_certificates l s (set (certificates_at l s) n q)) s) m no_kept ≡ get_or (certificates_at l s) m no_kept
kept_other l s n m q h ne =
    ap (λ (r : Row). get_or r.certificates m no_kept) (get_or-set_same l.rows s (record { blocks = (row_at l s).blocks; timed_out = (row_at l s).timed_out; final = (row_at l s).final; clash = (row_at l s).clash; card = (row_at l s).card; certificates = set (row_at l s).certificates n q; cells = (row_at l s).cells }) no_row h)
    ∙ get_or-set_other (row_at l s).certificates n m q no_kept ne

-- A node's cell stored in a row: the other nodes' stay.
pub cell_other : (l : Ledger) (s n m : ℕ) (c : Cell) → s < length l.rows → (m ≡ n → ⊥) → cell_at (put_cell l s n c) s m ≡ cell_at l s m
cell_other l s n m c h q =
    ap (λ (r : Row). get_or r.cells m no_cell) (get_or-set_same l.rows s (record { blocks = (row_at l s).blocks; timed_out = (row_at l s).timed_out; final = (row_at l s).final; clash = (row_at l s).clash; card = (row_at l s).card; certificates = (row_at l s).certificates; cells = set (row_at l s).cells n c }) no_row h)
    ∙ get_or-set_other (row_at l s).cells n m c no_cell q
