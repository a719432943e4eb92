-- What was read of a mask, with its words where they are lent.
use Rattle.std.specs.Prelude.{ℕ, Result, Ok, Err}
use Rattle.rulebook.specs.declared.Unread.{Unread}

-- A mask m that was laid into words, as a reading.
unfoldable pub laid_as : Result ℕ Unread → ℕ → Result (ℕ × ℕ) Unread
laid_as (Ok next) m = Ok (m, next)
laid_as (Err e) m = Err e
