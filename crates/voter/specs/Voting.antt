-- What casting asks of the lent memory, and what it leaves.
use Rattle.std.specs.Prelude.{◌≡◌, false, List, ℕ, ◌+◌, ◌*◌, ◌≤◌, ◌<◌, length}
use Rattle.rulebook.specs.Weights.{last_slot}
use Rattle.rulebook.specs.Ledger.{is_watcher}
use Rattle.rulebook.specs.Rules.{State}
use Rattle.rulebook.specs.Run.{most_records}
use Rattle.rulebook.specs.WellFormed.{outbox_words}
use Rattle.record.specs.Layout.{Long, ledger_of}
use Rattle.settling.specs.Facts.{Sound}
use Rattle.settling.specs.Spare.{spare}
use Rattle.settling.specs.Steps.{SameNode}
use Rattle.storing.specs.Storing.{Storing}
use Rattle.voter.specs.Outbox.{Moved}

-- An own vote can be cast in slot s: it can be stored, and its record has room.
pub record Castable (ws out : List ℕ) (at s : ℕ) : Type 0 where
  pub storing : Storing ws s (ledger_of ws).own
  pub room : 3 * at + 2 < length out

-- A call is under way: the words hold a sound ledger, and the outbox has room for all that can still be told.
pub record Live (ws out : List ℕ) (at : ℕ) : Type 0 where
  pub long : Long ws
  pub room : outbox_words ≤ length out
  pub sound : Sound (ledger_of ws)
  pub budget : at + spare (ledger_of ws) ≤ most_records

-- Likewise, at one of the slots 1 to 16.
pub record LiveAt (ws out : List ℕ) (at s : ℕ) : Type 0 where
  pub live : Live ws out at
  pub low : 1 ≤ s
  pub high : s ≤ last_slot

-- Likewise, of a node that is no watcher.
pub record CastingAt (ws out : List ℕ) (at s : ℕ) : Type 0 where
  pub live : LiveAt ws out at s
  pub votes : is_watcher (ledger_of ws) ≡ false

-- What a part of a call leaves: the state q, and a call of the same node that can go on.
pub record Onward (ws out : List ℕ) (at : ℕ) (ws' left : List ℕ) (made : ℕ) (q : State) : Type 0 where
  pub moved : Moved ws out at ws' left made q
  pub live : Live ws' left made
  pub same : SameNode (ledger_of ws) (ledger_of ws')
