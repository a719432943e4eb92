-- What a stored vote leaves of a ledger at rest.
use Rattle.std.specs.Prelude.{◌≡◌, Bool, false, List, ℕ, ◌≤◌, ◌<◌, length, get_or}
use Rattle.rulebook.specs.Weights.{last_slot}
use Rattle.rulebook.specs.Ledger.{Ledger, Row, no_cell, row_at, own_cell, put_row}
use Rattle.rulebook.specs.Rules.{Record, state_of}
use Rattle.rulebook.specs.Run.{rule_at}
use Rattle.settling.specs.Facts.{Sound}
use Rattle.settling.specs.Steps.{Settled}

-- Row r in the place of slot s's changes no block, no mark and no own vote.
pub record OthersVote (l : Ledger) (s : ℕ) (r : Row) : Type 0 where
  pub inside : s < length l.rows
  pub blocks : r.blocks ≡ (row_at l s).blocks
  pub final : r.final ≡ (row_at l s).final
  pub clash : r.clash ≡ (row_at l s).clash
  pub mine : get_or r.cells l.own no_cell ≡ own_cell l s

-- Of the rules that look at lower slots, A, B and D, none applies behind slot s.
pub record Calm (m : Ledger) (rs : List Record) (s : ℕ) : Type 0 where
  pub A : (t : ℕ) → s < t → t ≤ last_slot → rule_at 0 (state_of m rs) t ≡ state_of m rs
  pub B : (t : ℕ) → s < t → t ≤ last_slot → rule_at 1 (state_of m rs) t ≡ state_of m rs
  pub D : (t : ℕ) → s < t → t ≤ last_slot → rule_at 3 (state_of m rs) t ≡ state_of m rs

-- In a ledger in which no rule applied others' votes of slot s were exchanged; and where nothing is stirred, it is calm behind it.
pub record Touched (m : Ledger) (rs : List Record) (s : ℕ) (stirs : Bool) : Type 0 where
  pub before : Ledger
  pub row : Row
  pub is : m ≡ put_row before s row
  pub sound : Sound before
  pub rest : Settled (state_of before rs)
  pub others : OthersVote before s row
  pub calm : stirs ≡ false → Calm m rs s
