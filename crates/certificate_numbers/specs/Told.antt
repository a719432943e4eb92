-- What was read, with the masks in lent words: the certificate that an answer and the words tell together.
use Rattle.std.specs.Prelude.{◌≡◌, List, ℕ, length, take, Result, Ok, Err}
use Rattle.rulebook.specs.declared.Heading.{Heading}
use Rattle.rulebook.specs.Certificates as found
use Rattle.rulebook.specs.Packets.{number_at, words_in, certificate_of}
use Rattle.rulebook.specs.declared.Unread.{Unread}
use Rattle.rulebook.specs.declared.Unread.TheVariants.{Early, Malformed}

-- What was found, with lent words of which the first hold the masks.
unfoldable pub found_as : Result (Heading × ℕ) Unread → List ℕ → List ℕ → found.Found
found_as (Ok (h, next)) a b = found.Whole (certificate_of h (take (words_in h.kind) a) (take (words_in h.kind) b)) next
found_as (Err Early) a b = found.Early
found_as (Err Malformed) a b = found.Malformed

-- The words that are lent for a mask of any kind: room for 2,048 nodes.
abbrev pub most_words : ℕ
most_words = 32

pub record Scratch (a b : List ℕ) : Type 0 where
  pub long_a : length a ≡ most_words
  pub long_b : length b ≡ most_words

-- Masks of as many words as the kind says.
pub record Masks (h : Heading) (a b : List ℕ) : Type 0 where
  pub long_a : length a ≡ words_in h.kind
  pub long_b : length b ≡ words_in h.kind

-- Kind, slot and block from a place of the packet on, "12 and 13 as met".
unfoldable pub head_then : Result (ℕ × ℕ) Unread → (ℕ → ℕ → Result (Heading × ℕ) Unread) → Result (Heading × ℕ) Unread
head_then (Ok (v, next)) f = f v next
head_then (Err e) f = Err e

unfoldable pub heading_at : List ℕ → ℕ → Result (Heading × ℕ) Unread
heading_at bytes at =
    head_then (number_at bytes at) (λ kind p.
    head_then (number_at bytes p) (λ slot q.
    head_then (number_at bytes q) (λ block next. Ok (record { kind = kind; slot = record { 0 = slot }; block = block }, next))))
