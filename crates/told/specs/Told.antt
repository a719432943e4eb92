-- TOLD ONCE, TOLD ALL, over what is seen of a life, a node's or a watcher's: goods are released on record (6, s, b), so that it comes once for a slot,
-- stands beside the slot's final mark, and comes for every final block.
use Rattle.std.specs.Prelude.{◌≡◌, Bool, not, ◌&&◌, ◌||◌, List, [], ◌∷◌, ℕ, ◌+◌, ◌≤◌, T, eqb, length, get_or}
use Rattle.rulebook.specs.Tools.{part}
use Rattle.rulebook.specs.Weights.{last_slot, window_of}
use Rattle.rulebook.specs.Ledger.{none, row_at, own_cell, keeps_block}
use Rattle.rulebook.specs.Rules.{Record, record_of, is_final}
use Rattle.rulebook.specs.Run.{most_records}
use Rattle.safety.specs.Slot.{Ballot}
use Rattle.safety.specs.Ballots.{has, record_for, same_record, among}
use Rattle.seen.specs.Seen.{Seen, ledger_in, Alive}

-- How many of the records pass the test.
unfoldable pub count_of : (Record → Bool) → List Record → ℕ
count_of p [] = 0
count_of p (r ∷ rs) = part (p r) 1 + count_of p rs

-- The record is of kind k and slot s, whatever its block.
abbrev pub tells : ℕ → ℕ → Record → Bool
tells k s r = eqb r.kind k && eqb r.slot s

-- It tells that window w is armed: its kind is 7, and its slot is one of the window's.
abbrev pub arms : ℕ → Record → Bool
arms w r = eqb r.kind 7 && eqb (window_of r.slot) w

-- It is an initial vote for slot s: notar for any block, or skip.
abbrev pub opens : ℕ → Record → Bool
opens s r = (eqb r.kind 1 || eqb r.kind 3) && eqb r.slot s

-- TOLD ONCE: of what was told, at most one final block a slot, at most one that another is final too, one arming a window, one initial vote a slot, and no
-- vote twice.
pub record Once (told : List Record) : Type 0 where
  pub final : (s : ℕ) → count_of (tells 6 s) told ≤ 1
  pub another : (s : ℕ) → count_of (tells 8 s) told ≤ 1
  pub armed : (w : ℕ) → count_of (arms w) told ≤ 1
  pub initial : (s : ℕ) → count_of (opens s) told ≤ 1
  pub vote : (s : ℕ) (v : Ballot) → count_of (λ r. same_record r (record_for s v)) told ≤ 1

abbrev pub ToldOnce : Type 0
ToldOnce = (stakes : List ℕ) (genesis : ℕ) (v : Seen) → Alive stakes genesis v → Once v.told

-- MARKS AND RECORDS ARE ONE: a slot's final mark is b exactly where (6, s, b) was told, its mark of another is on exactly where an (8, s, _) was, a window is
-- armed exactly where a record of kind 7 told it, and a vote stands in the own cell exactly where it was told.
pub record Marked (v : Seen) : Type 0 where
  pub final : (s b : ℕ) → (not (none b) && eqb (row_at (ledger_in v) s).final b) ≡ among v.told (record_of 6 s b)
  pub another : (s : ℕ) → not (none (row_at (ledger_in v) s).clash) ≡ not (none (count_of (tells 8 s) v.told))
  pub armed : (w : ℕ) → not (none (get_or (ledger_in v).armed w 0)) ≡ not (none (count_of (arms w) v.told))
  pub vote : (s : ℕ) (b : Ballot) → has (own_cell (ledger_in v) s) b ≡ among v.told (record_for s b)

abbrev pub MarksAreTold : Type 0
MarksAreTold = (stakes : List ℕ) (genesis : ℕ) (v : Seen) → Alive stakes genesis v → Marked v

-- "the life total is at most 132".
abbrev pub ToldFew : Type 0
ToldFew = (stakes : List ℕ) (genesis : ℕ) (v : Seen) → Alive stakes genesis v → length v.told ≤ most_records

-- It was told that block b of slot s is final, or that the slot has another final block.
abbrev pub is_told : List Record → ℕ → ℕ → Bool
is_told told s b = among told (record_of 6 s b) || not (none (count_of (tells 8 s) told))

-- TOLD ALL, by the end of every call: a block that is final by certificates held was told, and so was the parent of a block that was told and is kept with
-- it, genesis aside; or the slot has another that was, and it was told that it has.
pub record All (v : Seen) : Type 0 where
  pub certified : (s b : ℕ) → 1 ≤ s → s ≤ last_slot → T (not (none b)) → T (is_final (ledger_in v) s b) → T (is_told v.told s b)
  pub parent : (s b p x : ℕ) → 1 ≤ s → s ≤ last_slot → 1 ≤ p → T (among v.told (record_of 6 s b)) → T (keeps_block (ledger_in v) s b p x) → T (is_told v.told p x)

abbrev pub ToldAll : Type 0
ToldAll = (stakes : List ℕ) (genesis : ℕ) (v : Seen) → Alive stakes genesis v → All v
