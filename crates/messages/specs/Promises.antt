-- What is promised of vote messages, over the definitions of the rule book.
use Rattle.std.specs.Prelude.{◌≡◌, true, List, ◌⊎◌, ℕ, ◌^◌, ◌≤◌, ◌<◌, length, take, get_or, Ok, Err}
use Rattle.rulebook.specs.declared.Vote.{Vote}
use Rattle.rulebook.specs.declared.Refusal.{Refusal}
use Rattle.rulebook.specs.declared.Refusal.TheVariants as refusal
use Rattle.rulebook.specs.Weights.{count_fits}
use Rattle.rulebook.specs.Ledger.{Ledger}
use Rattle.rulebook.specs.Inputs.{vote_verdict}
use Rattle.rulebook.specs.Messages.{read_vote, write_vote}
use Rattle.rulebook.specs.Writers.{Writes}

-- Each element is a byte.
abbrev pub Bytes : List ℕ → Type 0
Bytes s = (i : ℕ) → get_or s i 0 < 256

-- "Reading what was written gives the vote back": the bytes that the writer counted, whatever follows them in the buffer.
abbrev pub WrittenBack : Type 0
WrittenBack =
    (count n : ℕ) (v : Vote) (buffer after : List ℕ) → v.block < 2 ^ 64
    → Writes (write_vote count (length buffer) v) buffer (Ok n) after → read_vote count (take n after) ≡ Ok v

-- "no vote has two accepted spellings", whatever the counts.
abbrev pub OneSpelling : Type 0
OneSpelling =
    (count other : ℕ) (v : Vote) (p q : List ℕ) → Bytes p → Bytes q → read_vote count p ≡ Ok v → read_vote other q ≡ Ok v → p ≡ q

-- A message that is written has at most 16 bytes.
abbrev pub SixteenHold : Type 0
SixteenHold = (count room n : ℕ) (v : Vote) → (write_vote count room v).answer ≡ Ok n → n ≤ 16

-- The pool never refuses an accepted message with 4, 3, 2 or 5 where the counts agree: only 6, 7 and 8 are left.
abbrev pub PoolAgrees : Type 0
PoolAgrees =
    (l : Ledger) (bytes : List ℕ) (v : Vote) (r : Refusal) → read_vote l.count bytes ≡ Ok v → vote_verdict l v ≡ Err r
    → (r ≡ refusal.OwnName) ⊎ ((r ≡ refusal.AlreadyKept) ⊎ (r ≡ refusal.OtherStands))

-- What the pool takes can be written and sent.
abbrev pub TakenWritten : Type 0
TakenWritten =
    (l : Ledger) (v : Vote) (room : ℕ) → count_fits l.count ≡ true → 16 ≤ room → vote_verdict l v ≡ Ok tt
    → (n : ℕ) × ((write_vote l.count room v).answer ≡ Ok n)
