-- A place for certificates: what is kept there, the words of a mask that is lent, and what storing one asks.
use Rattle.std.specs.Prelude.{◌≡◌, Bool, List, ℕ, ◌+◌, ◌≤◌, length, get_or}
use Rattle.rulebook.specs.Tools.{all_to}
use Rattle.rulebook.specs.Certificates.{Kept}
use Rattle.rulebook.specs.Packets.{joined}
use Rattle.rulebook.specs.Ledger.{Ledger, none, no_kept, places, certificates_at}
use Rattle.record.specs.Layout.{word_at, mask_words, ledger_of, InKept}

-- What place n of slot s keeps.
abbrev pub place_at : Ledger → ℕ → ℕ → Kept
place_at l s n = get_or (certificates_at l s) n no_kept

-- All words are 0.
unfoldable pub all_none : List ℕ → Bool
all_none ws = all_to (length ws) (λ i. none (word_at ws i))

-- Words that are lent as a mask of the record: as many as its masks have, and the mask that they spell.
pub record Lent (l : Ledger) (mask : ℕ) (words : List ℕ) : Type 0 where
  pub many : length words ≡ mask_words (places l)
  pub spells : joined words ≡ mask

-- The words from a place on lie within the record.
pub record Within (ws : List ℕ) (at : ℕ) (words : List ℕ) : Type 0 where
  pub inside : at + length words ≤ length ws

-- A place for certificates, and two masks with as many words as the record's have.
pub record Storing (ws : List ℕ) (s n : ℕ) (a b : List ℕ) : Type 0 where
  pub place : InKept ws s n
  pub many_a : length a ≡ mask_words (places (ledger_of ws))
  pub many_b : length b ≡ mask_words (places (ledger_of ws))
