-- What storing a vote asks of a caller.
use Rattle.std.specs.Prelude.{List, ℕ, ◌≤◌, ◌<◌}
use Rattle.rulebook.specs.Weights.{last_slot}
use Rattle.record.specs.Layout.{Long, ledger_of}
use Rattle.settling.specs.Facts.{Sound}

-- The words hold a sound ledger, and the vote is of one of its nodes in one of the slots 1 to 16.
pub record Storing (ws : List ℕ) (s n : ℕ) : Type 0 where
  pub long : Long ws
  pub sound : Sound (ledger_of ws)
  pub low : 1 ≤ s
  pub high : s ≤ last_slot
  pub node : n < (ledger_of ws).count
