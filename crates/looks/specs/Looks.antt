-- What a tray keeps in mind of who names blocks in a slot, so that nodes are not gone over again after every vote.
use Rattle.std.specs.Prelude.{◌≡◌, Bool, true, false, not, ◌&&◌, ◌||◌, List, ℕ, ◌≤◌, ◌<◌, length, get_or, eqb, ltb}
use Rattle.rulebook.specs.declared.Place.TheVariants.{Free}
use Rattle.rulebook.specs.declared.VoteKind.{VoteKind}
use Rattle.rulebook.specs.declared.VoteKind.TheVariants as vote
use Rattle.rulebook.specs.Weights.{reaches, weight}
use Rattle.rulebook.specs.Ledger.{Ledger, cell_at}
use Rattle.rulebook.specs.Votes.{place_of, store_vote}
use Rattle.record.specs.Layout.{ledger_of}
use Rattle.storing.specs.Storing.{Storing}
use Rattle.parents.specs.Naming.{names_some}

-- Node n names some block in slot s, or is the own node, whatever it names: what it casts then changes nothing.
unfoldable pub is_beside : Ledger → ℕ → ℕ → Bool
is_beside l s n = eqb n l.own || names_some (cell_at l s n)

-- What all such nodes weigh.
unfoldable pub named_beside : Ledger → ℕ → ℕ
named_beside l s = weight l.stakes l.count (is_beside l s)

-- A word for each slot from 0 on: no less than what they weigh there.
pub record Bounds (l : Ledger) (looks : List ℕ) : Type 0 where
  pub each : (s : ℕ) → s < length looks → named_beside l s ≤ get_or looks s 0

-- There is a word for slot s, and it stays short of 60 percent.
unfoldable pub is_short : Ledger → List ℕ → ℕ → Bool
is_short l looks s = ltb s (length looks) && not (reaches 3 l.total (get_or looks s 0))

-- A vote of this kind names a block: notar and notar-fallback.
unfoldable pub names_block : VoteKind → Bool
names_block vote.Notar = true
names_block vote.NotarFallback = true
names_block vote.Skip = false
names_block vote.SkipFallback = false
names_block vote.Final = false
names_block vote.Other = false

-- A vote can be stored, and the words are such.
pub record Noting (ws : List ℕ) (s n : ℕ) (looks : List ℕ) : Type 0 where
  pub storing : Storing ws s n
  pub bounds : Bounds (ledger_of ws) looks

-- The words are such once the vote is stored, whatever block it names.
abbrev pub Noted : Ledger → ℕ → ℕ → VoteKind → List ℕ → Type 0
Noted l s n k looks = (x : ℕ) → place_of (cell_at l s n) k x ≡ Free → Bounds (store_vote l s n k x) looks
