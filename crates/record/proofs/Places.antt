-- Where the rows, blocks, kept certificates and cells of a record with p places stand: the only products of two variables, and their laws.
-- Assumes nothing.
use mathlib.Core.Path.{◌≡◌, refl, sym, ap, ◌∙◌}
use mathlib.Core.List.{List}
use mathlib.Core.Logic.{⊎_elim}
use Prim.Native.Nat.{ℕ, suc, ◌+◌, ◌-◌, ◌*◌, ◌/◌, ◌≤◌, ◌<◌}
use native.Mathlib.Omega.{arith}
use native.Mathlib.Nat.{mul-suc, mul-le-mul_left}
use native.Mathlib.Decide.{ℕ_discrete}
use lib.ListN.{length}
use lib.Dec.{leb, ltb}
use borrow.Author.Tests.{leb-true, leb-false, ltb-true, ltb-false, lt-ltb, le-ltb}
use Rattle.rulebook.specs.Weights.{last_slot, is_large}
use Rattle.rulebook.specs.Ledger.{most_blocks, most_certificates, places}
use Rattle.rule_laws.proofs.ToolLaws.{choose_on, choose_off, by_test}
use Rattle.record.specs.Layout.{word_at, stake_start, head_words, kept_at, row_head, row_words, block_words, kept_words, mask_words, cell_words, row_start, block_start, kept_start, cell_start, timeout_at, bare_words, place_words, large_words, masks_of, record_words, places_in, Long, ledger_at, ledger_of, InSlot, InBlocks, InKept, Placed, InTable, Counted, RowAt, BlockAt, CardAt, KeptAt, CellAt}
use Rattle.record.proofs.Tables.{lt_or_gt, length_tabulate}

-- ---- the words of a mask, by the places and by the length

pub mask_small : (p : ℕ) → p ≤ 64 → mask_words p ≡ 1
unfolding mask_words is_large
mask_small p h = choose_off (ltb 64 p) 32 1 (le-ltb 64 p h)

pub mask_large : (p : ℕ) → 64 < p → mask_words p ≡ 32
unfolding mask_words is_large
mask_large p h = choose_on (ltb 64 p) 32 1 (lt-ltb 64 p h)

-- By cases: a law of small records and of large ones.
pub by_size : {X : Type 0} (p : ℕ) → (p ≤ 64 → mask_words p ≡ 1 → X) → (64 < p → mask_words p ≡ 32 → X) → X
by_size p f g =
    by_test (leb p 64) (λ t. let h = leb-true p 64 t in f h (mask_small p h)) (λ t. let h = leb-false p 64 t in g h (mask_large p h))

-- At least one, at most 32.
pub mask_some : (p : ℕ) → 1 ≤ mask_words p
mask_some p = by_size p (λ h m. omega arith) (λ h m. omega arith)

pub mask_few : (p : ℕ) → mask_words p ≤ 32
mask_few p = by_size p (λ h m. omega arith) (λ h m. omega arith)

pub masks_small : (n : ℕ) → n < large_words → masks_of n ≡ 1
unfolding masks_of
masks_small n h = choose_on (ltb n large_words) 1 32 (lt-ltb n large_words h)

pub masks_large : (n : ℕ) → large_words ≤ n → masks_of n ≡ 32
unfolding masks_of
masks_large n h = choose_off (ltb n large_words) 1 32 (le-ltb n large_words h)

pub masks_few : (n : ℕ) → masks_of n ≤ 32
masks_few n =
    by_test (ltb n large_words) (λ t. omega (arith, masks_small n (ltb-true n large_words t))) (λ t. omega (arith, masks_large n (ltb-false n large_words t)))

-- ---- where things stand

module _ (p : ℕ) where
  -- The head comes before every row, and a later row starts where an earlier one has ended.
  pub head_before : (s : ℕ) → head_words p ≤ row_start p s
  unfolding row_start
  head_before s = omega arith

  pub row_later : (s t : ℕ) → s < t → row_start p s + row_words p ≤ row_start p t
  unfolding row_start
  row_later s t h = omega (arith, mul-le-mul_left (row_words p) h, mul-suc (row_words p) s)

  -- Every row lies within the record.
  pub row_inside : (s : ℕ) → s < suc last_slot → row_start p s + row_words p ≤ record_words p
  row_inside s h = row_later s (suc last_slot) h

  -- Rows of two slots never share a word.
  pub rows_apart : (s t i : ℕ) → row_start p s ≤ i → i < row_start p s + row_words p → row_start p t ≤ i → i < row_start p t + row_words p → s ≡ t
  rows_apart s t i a b c d =
      elim (ℕ_discrete s t) [
        | yes e ↦ e
        | no ne ↦ absurd (⊎_elim (λ o. omega (arith, row_later s t o)) (λ o. omega (arith, row_later t s o)) (lt_or_gt s t ne))
      ]

  -- Cells of two nodes in a row never share a word, and none is in the row's head.
  pub cells_apart : (s n m i : ℕ) → cell_start p s n ≤ i → i < cell_start p s n + cell_words → cell_start p s m ≤ i → i < cell_start p s m + cell_words → n ≡ m
  cells_apart s n m i a b c d = omega arith

  -- Two places for blocks in a row never share a word, and all lie in the row's head, before its marks.
  pub blocks_apart_lem : (s n m i : ℕ) → block_start p s n ≤ i → i < block_start p s n + block_words → block_start p s m ≤ i → i < block_start p s m + block_words → n ≡ m
  blocks_apart_lem s n m i a b c d = omega arith

  pub block_inside : (s n : ℕ) → n < most_blocks → (row_start p s ≤ block_start p s n) × (block_start p s n + block_words ≤ row_start p s + timeout_at)
  block_inside s n h = (omega arith, omega arith)

  -- So with the places for certificates: they come behind the card, a later one starts where an earlier one has ended, and all lie in the
  -- row's head.
  pub kept_behind : (s n : ℕ) → row_start p s + kept_at ≤ kept_start p s n
  unfolding kept_start
  kept_behind s n = omega arith

  pub kept_later : (s n m : ℕ) → n < m → kept_start p s n + kept_words p ≤ kept_start p s m
  unfolding kept_start
  kept_later s n m h = omega (arith, mul-le-mul_left (kept_words p) h, mul-suc (kept_words p) n)

  pub kept_inside : (s n : ℕ) → n < most_certificates → kept_start p s n + kept_words p ≤ row_start p s + row_head p
  unfolding kept_start
  kept_inside s n h = omega (arith, mul-le-mul_left (kept_words p) h, mul-suc (kept_words p) n)

  pub kept_apart : (s n m i : ℕ) → kept_start p s n ≤ i → i < kept_start p s n + kept_words p → kept_start p s m ≤ i → i < kept_start p s m + kept_words p → n ≡ m
  kept_apart s n m i a b c d =
      elim (ℕ_discrete n m) [
        | yes e ↦ e
        | no ne ↦ absurd (⊎_elim (λ o. omega (arith, kept_later s n m o)) (λ o. omega (arith, kept_later s m n o)) (lt_or_gt n m ne))
      ]

  -- A node's cell lies in its slot's row, behind its head.
  pub cell_inside : (s n : ℕ) → n < p → (row_start p s + row_head p ≤ cell_start p s n) × (cell_start p s n + cell_words ≤ row_start p s + row_words p)
  cell_inside s n h = (omega arith, omega arith)

  -- The length of a record, in numbers.
  pub record_long : record_words p ≡ bare_words (mask_words p) + place_words * p
  unfolding row_start
  record_long = omega arith

-- The places are told by the length.
pub places_back : (ws : List ℕ) (p : ℕ) → length ws ≡ record_words p → places_in ws ≡ p
unfolding places_in
places_back ws p e =
    by_size p (λ h m. omega (arith, record_long p, masks_small (length ws) (omega (arith, record_long p))))
    (λ h m. omega (arith, record_long p, masks_large (length ws) (omega (arith, record_long p))))

-- Words have no more places than there is room for.
pub places_inside : (ws : List ℕ) → place_words * places_in ws ≤ length ws
unfolding places_in
places_inside ws = omega arith

pub same_places : (ws ws' : List ℕ) → length ws' ≡ length ws → places_in ws' ≡ places_in ws
unfolding places_in
same_places ws ws' e = ap (λ (n : ℕ). (n - bare_words (masks_of n)) / place_words) e

-- The ledger has as many places as the words.
pub places_words : (p : ℕ) (ws : List ℕ) → places (ledger_at p ws) ≡ p
unfolding ledger_at
places_words p ws = length_tabulate p (λ n. word_at ws (stake_start + n))

-- As code computes them, w being the words of a mask.
pub few_placeless : (ws : List ℕ) (w : ℕ) → w ≡ masks_of (length ws) → length ws < bare_words w → 0 ≡ places (ledger_of ws)
unfolding places_in
few_placeless ws w e h = omega (arith, places_words (places_in ws) ws)

pub places_told : (ws : List ℕ) (w : ℕ) → w ≡ masks_of (length ws) → (length ws - bare_words w) / place_words ≡ places (ledger_of ws)
unfolding places_in
places_told ws w e = omega (arith, places_words (places_in ws) ws)

pub node_placed : (ws : List ℕ) (n : ℕ) → n < places (ledger_of ws) → n < places_in ws
node_placed ws n h = omega (arith, places_words (places_in ws) ws)

-- Words of a record with p places.
pub sized_long : (ws : List ℕ) (p : ℕ) → length ws ≡ record_words p → Long ws
sized_long ws p e = e ∙ ap record_words (sym (places_back ws p e))

pub sized_places : (ws : List ℕ) (p : ℕ) → length ws ≡ record_words p → places (ledger_of ws) ≡ p
sized_places ws p e = places_words (places_in ws) ws ∙ places_back ws p e

-- A store keeps the places.
pub same_shape : (ws ws' : List ℕ) → length ws' ≡ length ws → ledger_of ws' ≡ ledger_at (places_in ws) ws'
same_shape ws ws' e = ap (λ (p : ℕ). ledger_at p ws') (same_places ws ws' e)

pub long_same : (ws ws' : List ℕ) → length ws' ≡ length ws → Long ws → Long ws'
long_same ws ws' e h = e ∙ h ∙ ap record_words (sym (same_places ws ws' e))

-- The length of a record, by its places.
pub words_in_lem : (ws : List ℕ) → Long ws → length ws ≡ bare_words (mask_words (places_in ws)) + place_words * places_in ws
words_in_lem ws e = e ∙ record_long (places_in ws)

-- It has the words of no place at least, w being the words of a mask.
pub long_some : (ws : List ℕ) (w : ℕ) → w ≡ masks_of (length ws) → Long ws → bare_words w ≤ length ws
long_some ws w e h =
    let n = words_in_lem ws h in
    by_size (places_in ws) (λ l m. omega (arith, n, e, masks_small (length ws) (omega (arith, n))))
    (λ l m. omega (arith, n, e, masks_large (length ws) (omega (arith, n))))

-- ---- as code computes it: no sum and no product wraps, since all lie within the words

module _ (ws : List ℕ) (p : ℕ) (e : p ≡ places (ledger_of ws)) where
  same : p ≡ places_in ws
  same = e ∙ places_words (places_in ws) ws

  head_same : (h : ℕ) → h ≡ row_head p → h ≡ row_head (places_in ws)
  head_same h k = k ∙ ap row_head same

  pub row_sum : (s h : ℕ) → InSlot ws s → h ≡ row_head p → 8 + p + (h + 7 * p) * s + (h + 7 * p) ≤ length ws
  unfolding row_start
  row_sum s h i k = rw (head_same h k, same) (omega (arith, row_inside (places_in ws) s i.slot, i.long))

  pub row_here : (s h : ℕ) → InSlot ws s → h ≡ row_head p → RowAt ws s (8 + p + (h + 7 * p) * s)
  unfolding row_start
  row_here s h i k =
      record { is = rw (head_same h k, same) refl; inside = rw (head_same h k, same) (omega (arith, row_inside (places_in ws) s i.slot, i.long)) }

  pub kept_here : (s n i w : ℕ) → InKept ws s n → RowAt ws s i → w ≡ mask_words p → KeptAt ws s n (i + 20 + (1 + 2 * w) * n)
  unfolding kept_start
  kept_here s n i w h r k =
      let many : w ≡ mask_words (places_in ws) = k ∙ ap mask_words same in
      let is : i + 20 + (1 + 2 * w) * n ≡ kept_start (places_in ws) s n = rw many (omega (arith, r.is)) in
      record { is = is; inside = omega (arith, is, r.is, r.inside, kept_inside (places_in ws) s n h.place) }

  pub cell_here : (s n i h : ℕ) → Placed ws s n → RowAt ws s i → h ≡ row_head p → CellAt ws s n (i + h + 7 * n)
  cell_here s n i h q r k =
      record { is = omega (arith, r.is, head_same h k); inside = omega (arith, r.inside, q.node, head_same h k, same) }

pub block_here : (ws : List ℕ) (s n i : ℕ) → InBlocks ws s n → RowAt ws s i → BlockAt ws s n (i + 3 * n)
block_here ws s n i h r = record { is = omega (arith, r.is); inside = omega (arith, r.inside, h.place) }

pub card_here : (ws : List ℕ) (s i : ℕ) → RowAt ws s i → CardAt ws s (i + 15)
card_here ws s i r = record { is = omega (arith, r.is); inside = omega (arith, r.inside) }

pub node_there : (ws : List ℕ) (n : ℕ) → InTable ws n → 8 + n < length ws
node_there ws n h = omega (arith, words_in_lem ws h.long, node_placed ws n h.node)

pub nodes_there : (ws : List ℕ) → Counted ws → 8 + (ledger_of ws).count ≤ length ws
nodes_there ws h = omega (arith, words_in_lem ws h.long, places_words (places_in ws) ws, h.few)
