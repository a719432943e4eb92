-- What running the rules asks of the lent memory.
use Rattle.std.specs.Prelude.{◌≡◌, true, false, List, ℕ}
use Rattle.rulebook.specs.Ledger.{none, is_watcher}
use Rattle.rulebook.specs.Rules.{fallback_weights}
use Rattle.record.specs.Layout.{ledger_of}
use Rattle.record.specs.Tabled.{Tabled}
use Rattle.voter.specs.Voting.{Live, LiveAt, CastingAt}

-- A call is under way, and the record's stakes are a table.
pub record UnderWay (ws out : List ℕ) (at : ℕ) : Type 0 where
  pub live : Live ws out at
  pub table : Tabled (ledger_of ws)

-- Likewise, at one of the slots 1 to 16.
pub record UnderWayAt (ws out : List ℕ) (at s : ℕ) : Type 0 where
  pub live : LiveAt ws out at s
  pub table : Tabled (ledger_of ws)

-- Likewise, of a node that is no watcher: what the rules that vote ask.
pub record VotingAt (ws out : List ℕ) (at s : ℕ) : Type 0 where
  pub under : UnderWayAt ws out at s
  pub votes : is_watcher (ledger_of ws) ≡ false

-- A vote can be cast at slot s, and block b has rule D's weights there.
pub record WeighedAt (ws out : List ℕ) (at s b : ℕ) : Type 0 where
  pub casting : CastingAt ws out at s
  pub block : none b ≡ false
  pub weights : fallback_weights (ledger_of ws) s b ≡ true
