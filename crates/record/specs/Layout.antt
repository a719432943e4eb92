-- What a node's words mean: a head (count, total, own number, genesis, the armed windows, the stakes), then a row for each
-- slot: four places for blocks (number, its parent's slot and number), timed out, final block, the mark of another, the tally
-- card, 13 places for certificates (block, the words of each mask), then a cell for each node.
use Rattle.std.specs.Prelude.{◌≡◌, List, [], ◌∷◌, ℕ, zero, suc, ◌+◌, ◌-◌, ◌*◌, ◌/◌, ◌≤◌, ◌<◌, length, get_or, ltb}
use Rattle.rulebook.specs.declared.Cell.{Cell}
use Rattle.rulebook.specs.declared.Block.{Block}
use Rattle.rulebook.specs.declared.Tally.{Tally}
use Rattle.rulebook.specs.Tools.{choose}
use Rattle.rulebook.specs.Weights.{last_slot, windows, is_large}
use Rattle.rulebook.specs.Certificates.{Kept}
use Rattle.rulebook.specs.Packets.{joined}
use Rattle.rulebook.specs.Ledger.{Ledger, Row, card_of, most_blocks, most_certificates, places}

-- ---- where each thing stands

abbrev pub armed_start : ℕ
armed_start = 4

abbrev pub stake_start : ℕ
stake_start = armed_start + windows

-- The head of a record with p places.
abbrev pub head_words : ℕ → ℕ
head_words p = stake_start + p

abbrev pub cell_words : ℕ
cell_words = 7

abbrev pub block_words : ℕ
block_words = 3

abbrev pub card_words : ℕ
card_words = 5

-- A signer mask has 32 words in a large table, else one.
unfoldable pub mask_words : ℕ → ℕ
mask_words p = choose (is_large p) 32 1

-- A kept certificate: its block and its masks.
abbrev pub kept_words : ℕ → ℕ
kept_words p = 1 + 2 * mask_words p

-- In a row's head: the mark of its timeout behind the blocks, then its final block, the mark of another, the card, and the
-- places for certificates.
abbrev pub timeout_at : ℕ
timeout_at = 12

abbrev pub final_at : ℕ
final_at = 13

abbrev pub clash_at : ℕ
clash_at = 14

abbrev pub card_at : ℕ
card_at = 15

abbrev pub kept_at : ℕ
kept_at = 20

abbrev pub row_head : ℕ → ℕ
row_head p = kept_at + most_certificates * kept_words p

abbrev pub row_words : ℕ → ℕ
row_words p = row_head p + cell_words * p

-- The first word of slot s's row, of place i for a block in it, of its card, of place i for a certificate, and of node n's cell
-- in it.
unfoldable pub row_start : ℕ → ℕ → ℕ
row_start p s = head_words p + row_words p * s

abbrev pub block_start : ℕ → ℕ → ℕ → ℕ
block_start p s i = row_start p s + block_words * i

abbrev pub card_start : ℕ → ℕ → ℕ
card_start p s = row_start p s + card_at

unfoldable pub kept_start : ℕ → ℕ → ℕ → ℕ
kept_start p s i = row_start p s + kept_at + kept_words p * i

abbrev pub cell_start : ℕ → ℕ → ℕ → ℕ
cell_start p s n = row_start p s + row_head p + cell_words * n

-- "one fixed length", by the places: all rows after the head.
abbrev pub record_words : ℕ → ℕ
record_words p = row_start p (suc last_slot)

-- That is so many words without any place, by the words of a mask, and so many more for each place.
abbrev pub bare_words : ℕ → ℕ
bare_words w = 569 + 442 * w

abbrev pub place_words : ℕ
place_words = 120

-- A record of 64 places has at most 8,691 words, one of 65 has so many.
abbrev pub large_words : ℕ
large_words = 22513

-- The words of a mask in a record of n words.
unfoldable pub masks_of : ℕ → ℕ
masks_of n = choose (ltb n large_words) 1 32

-- The places that words have. Their number alone tells it, so no store changes the shape.
unfoldable pub places_in : List ℕ → ℕ
places_in ws = (length ws - bare_words (masks_of (length ws))) / place_words

-- ---- what the words mean

-- f 0, f 1 .. f (n - 1).
unfoldable pub tabulate : {A : Type 0} → ℕ → (ℕ → A) → List A
tabulate zero f = []
tabulate (suc n) f = f zero ∷ tabulate n (λ k. f (suc k))

-- The word at a place.
abbrev pub word_at : List ℕ → ℕ → ℕ
word_at ws i = get_or ws i 0

abbrev pub cell_from : List ℕ → ℕ → Cell
cell_from ws i =
    record {
      notar = word_at ws i;
      skip = word_at ws (i + 1);
      fallback1 = word_at ws (i + 2);
      fallback2 = word_at ws (i + 3);
      fallback3 = word_at ws (i + 4);
      skipfallback = word_at ws (i + 5);
      finalvote = word_at ws (i + 6);
    }

abbrev pub block_from : List ℕ → ℕ → Block
block_from ws i = record { number = word_at ws i; parentslot = record { 0 = word_at ws (i + 1) }; parent = word_at ws (i + 2) }

abbrev pub card_from : List ℕ → ℕ → Tally
card_from ws i = card_of (word_at ws i) (word_at ws (i + 1)) (word_at ws (i + 2)) (word_at ws (i + 3)) (word_at ws (i + 4))

-- The mask that w words from place i on spell.
abbrev pub mask_from : ℕ → List ℕ → ℕ → ℕ
mask_from w ws i = joined (tabulate w (λ j. word_at ws (i + j)))

abbrev pub kept_from : ℕ → List ℕ → ℕ → Kept
kept_from w ws i = record { block = word_at ws i; maska = mask_from w ws (i + 1); maskb = mask_from w ws (i + 1 + w) }

abbrev pub cell_of : ℕ → List ℕ → ℕ → ℕ → Cell
cell_of p ws s n = cell_from ws (cell_start p s n)

abbrev pub block_of : ℕ → List ℕ → ℕ → ℕ → Block
block_of p ws s i = block_from ws (block_start p s i)

abbrev pub kept_of : ℕ → List ℕ → ℕ → ℕ → Kept
kept_of p ws s i = kept_from (mask_words p) ws (kept_start p s i)

abbrev pub row_of : ℕ → List ℕ → ℕ → Row
row_of p ws s =
    record {
      blocks = tabulate most_blocks (block_of p ws s);
      timed_out = word_at ws (row_start p s + timeout_at);
      final = word_at ws (row_start p s + final_at);
      clash = word_at ws (row_start p s + clash_at);
      card = card_from ws (card_start p s);
      certificates = tabulate most_certificates (kept_of p ws s);
      cells = tabulate p (cell_of p ws s);
    }

-- The ledger that words of p places hold.
unfoldable pub ledger_at : ℕ → List ℕ → Ledger
ledger_at p ws =
    record {
      count = word_at ws 0;
      total = word_at ws 1;
      own = word_at ws 2;
      genesis = word_at ws 3;
      armed = tabulate windows (λ w. word_at ws (armed_start + w));
      stakes = tabulate p (λ n. word_at ws (stake_start + n));
      rows = tabulate (suc last_slot) (row_of p ws);
    }

-- The ledger that words hold, as many places as their length says.
abbrev pub ledger_of : List ℕ → Ledger
ledger_of ws = ledger_at (places_in ws) ws

-- The words are as many as their places ask for.
abbrev pub Long : List ℕ → Type 0
Long ws = length ws ≡ record_words (places_in ws)

-- ---- what inner functions ask of their callers

-- The words are as many as their places ask for, and the slot has a row.
pub record InSlot (ws : List ℕ) (s : ℕ) : Type 0 where
  pub long : Long ws
  pub slot : s < suc last_slot

-- Likewise, and the slot has a window: it is not genesis's.
pub record InWindow (ws : List ℕ) (s : ℕ) : Type 0 where
  pub long : Long ws
  pub later : 1 ≤ s
  pub slot : s < suc last_slot

-- Likewise, and i is one of its places for blocks.
pub record InBlocks (ws : List ℕ) (s i : ℕ) : Type 0 where
  pub long : Long ws
  pub slot : s < suc last_slot
  pub place : i < most_blocks

-- Likewise, and i is one of its places for certificates.
pub record InKept (ws : List ℕ) (s i : ℕ) : Type 0 where
  pub long : Long ws
  pub slot : s < suc last_slot
  pub place : i < most_certificates

-- The words are as many as their places ask for, the slot has a row, and the node has a cell.
pub record Placed (ws : List ℕ) (s n : ℕ) : Type 0 where
  pub long : Long ws
  pub slot : s < suc last_slot
  pub node : n < places (ledger_of ws)

-- The words are as many as their places ask for, and the node has a stake.
pub record InTable (ws : List ℕ) (n : ℕ) : Type 0 where
  pub long : Long ws
  pub node : n < places (ledger_of ws)

-- The words are as many as their places ask for, and all nodes that they count have a place.
pub record Counted (ws : List ℕ) : Type 0 where
  pub long : Long ws
  pub few : (ledger_of ws).count ≤ places (ledger_of ws)

-- Where a row, a block's place, a card, a certificate's place, or a cell, begins, and that it lies within the words.
pub record RowAt (ws : List ℕ) (s i : ℕ) : Type 0 where
  pub is : i ≡ row_start (places_in ws) s
  pub inside : i + row_words (places_in ws) ≤ length ws

pub record BlockAt (ws : List ℕ) (s n i : ℕ) : Type 0 where
  pub is : i ≡ block_start (places_in ws) s n
  pub inside : i + block_words ≤ length ws

pub record CardAt (ws : List ℕ) (s i : ℕ) : Type 0 where
  pub is : i ≡ card_start (places_in ws) s
  pub inside : i + card_words ≤ length ws

pub record KeptAt (ws : List ℕ) (s n i : ℕ) : Type 0 where
  pub is : i ≡ kept_start (places_in ws) s n
  pub inside : i + kept_words (places_in ws) ≤ length ws

pub record CellAt (ws : List ℕ) (s n i : ℕ) : Type 0 where
  pub is : i ≡ cell_start (places_in ws) s n
  pub inside : i + cell_words ≤ length ws
