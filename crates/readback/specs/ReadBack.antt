-- What the checker says of what a writer wrote, given the same stakes.
use Rattle.std.specs.Prelude.{◌≡◌, List, ℕ, Result, Ok, Err}
use Rattle.rulebook.specs.declared.Accepted.{Accepted}
use Rattle.rulebook.specs.declared.Refusal.{Refusal}
use Rattle.rulebook.specs.Writers.{Wrote, over}

-- The writer's refusal, or the acceptance.
unfoldable pub read_as : Result ℕ Refusal → Accepted → Result Accepted Refusal
read_as (Ok n) a = Ok a
read_as (Err r) a = Err r

-- What is answered, and the buffer afterwards: what the writer left.
pub record ReadsBack (wrote : Wrote) (told : Accepted) (buffer : List ℕ) (answer : Result Accepted Refusal) (after : List ℕ) : Type 0 where
  pub answered : answer ≡ read_as wrote.answer told
  pub bytes : after ≡ over wrote.bytes buffer
