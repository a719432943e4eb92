-- What is known of a line that is sent out of a page.
use Rattle.std.specs.Prelude.{◌≡◌, ℕ, ◌≤◌, length, Result, IfOk, IfErr, IsErr, ⊤}
use Rattle.lines.specs.declared.Page.{Page}
use Rattle.door.specs.declared.Unwritten.{Unwritten}

-- Where the next line begins: at the front of the same buffer where the line was sent, at its end where it was not. After a line that
-- was not sent, none is: from the page's end on no line is sent.
pub record NextLine (before after : Page) (sent : Result ⊤ Unwritten) : Type 0 where
  pub lent : after.bytes.ghost_name ≡ before.bytes.ghost_name
  pub room : length after.bytes.now ≡ length before.bytes.now
  pub begins : IfOk sent (λ _. after.at ≡ 0)
  pub ends : IfErr sent (λ _. after.at ≡ length after.bytes.now)
  pub stays : length before.bytes.now ≤ before.at → IsErr sent

-- A text that fills its page may have been cut, and is not sent.
pub record Whole (room used : ℕ) (sent : Result ⊤ Unwritten) : Type 0 where
  pub uncut : room ≤ used → IsErr sent
