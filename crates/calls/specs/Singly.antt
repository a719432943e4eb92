-- A TRAY AS SINGLE VOTES: "answers, records in order and node must equal feeding them singly, a refused vote in the middle included".
use Rattle.std.specs.Prelude.{◌≡◌, List, [], ◌∷◌, ℕ, ◌≤◌, length}
use Rattle.rulebook.specs.declared.Input.TheVariants as input
use Rattle.rulebook.specs.declared.Vote.{Vote}
use Rattle.rulebook.specs.WellFormed.{outbox_words}
use Rattle.rulebook.specs.Writers.{over}
use Rattle.tray_rules.specs.Trays.{votes_in}
use Rattle.answers.specs.Face.{Trayed}
use Rattle.seen.specs.Seen.{Seen}
use Rattle.calls.specs.Operation.{one_input, a_tray}
use Rattle.calls.specs.Life.{Met, next, Calls}

-- Calls that feed these votes, one step each, every outbox with room, and the numbers that they answer.
pub data Singly : Seen → List Vote → List ℕ → Seen → Type 0 where
  no_vote : {v : Seen} → Singly v [] [] v
  one_vote : {v w : Seen} {vs : List Vote} {numbers : List ℕ} (vote : Vote) (lent : List ℕ) (number made : ℕ) (words left : List ℕ)
      → outbox_words ≤ length lent → Met (one_input (input.Vote vote)) v.words lent number made words left
      → Singly (next v (one_input (input.Vote vote)) lent made words left) vs numbers w → Singly v (vote ∷ vs) (number ∷ numbers) w

-- They are calls of a life.
abbrev pub SinglyCalls : Type 0
SinglyCalls = (u v w : Seen) (vs : List Vote) (numbers : List ℕ) → Calls u v → Singly v vs numbers w → Calls u w

-- After a tray that is answered 0 is seen what is seen after single calls with its votes from the same record: the same words, the same records in
-- order, the same arrivals; and one answer a vote stands at the answer buffer's front, the words past them as found.
abbrev pub TrayAsVotes : Type 0
TrayAsVotes =
    (v w : Seen) (lent votes places : List ℕ) (made : ℕ) (words left answers numbers : List ℕ) → Trayed v.words lent votes places 0 made words left answers
    → Singly v (votes_in votes) numbers w
    → (answers ≡ over numbers places) × (next v (a_tray votes places answers) lent made words left ≡ w)
