-- What taking an input asks of the lent memory.
use Rattle.std.specs.Prelude.{◌≡◌, List, ℕ, ◌≤◌, length, Ok}
use Rattle.rulebook.specs.declared.Input.{Input}
use Rattle.rulebook.specs.Inputs.{verdict}
use Rattle.rulebook.specs.WellFormed.{outbox_words}
use Rattle.record.specs.Layout.{Long, ledger_of}
use Rattle.settling.specs.Facts.{Sound}

-- The words and the outbox are as long as they should be, the ledger is sound, and no test refuses the input.
pub record Taking (ws out : List ℕ) (i : Input) : Type 0 where
  pub long : Long ws
  pub room : outbox_words ≤ length out
  pub sound : Sound (ledger_of ws)
  pub fine : verdict (ledger_of ws) i ≡ Ok tt
