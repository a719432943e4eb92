-- WHAT A HOST SEES ACCEPTED, call by call, by the numbers answered alone: of a tray by its answer buffer. In which order votes came, and which of a tray's votes brought a
-- record, need not be seen.
use Rattle.std.specs.Prelude.{◌≡◌, Bool, false, ◌&&◌, ◌||◌, List, [], ◌∷◌, ℕ, eqb}
use Rattle.rulebook.specs.declared.Input.TheVariants as input
use Rattle.rulebook.specs.declared.Vote.{Vote}
use Rattle.rulebook.specs.Taking.{Arrival, of_input, of_packet}
use Rattle.tray_rules.specs.Trays.{votes_in}
use Rattle.seen.specs.Seen.{Seen}
use Rattle.calls.specs.Operation.{Operation, one_input, a_tray, a_packet}
use Rattle.calls.specs.Life.{Calls, none, then, not_started, not_watched, Life, Watch}
use Rattle.onlookers.specs.Accepted.{some_accepted}
use Rattle.onlookers.specs.Following.{begun_as}

-- One of a tray's votes passes the test, and its answer is 0.
unfoldable pub some_answered : (Arrival → Bool) → List Vote → List ℕ → Bool
some_answered p [] ns = false
some_answered p (v ∷ vs) [] = false
some_answered p (v ∷ vs) (n ∷ ns) = (eqb n 0 && p (of_input (input.Vote v))) || some_answered p vs ns

-- With a call that answered this number something was accepted that passes the test.
unfoldable pub accepted_with : (Arrival → Bool) → Operation → ℕ → Bool
accepted_with p (one_input i) number = eqb number 0 && p (of_input i)
accepted_with p (a_tray votes places answers) number = eqb number 0 && some_answered p (votes_in votes) answers
accepted_with p (a_packet packet) number = eqb number 0 && p (of_packet packet)

-- With one of the calls.
unfoldable pub accepted_by : (Arrival → Bool) → {v w : Seen} → Calls v w → Bool
accepted_by p none = false
accepted_by p (then k o lent number made words left m) = accepted_by p k || accepted_with p o number
accepted_by p (not_started k stakes own genesis number words s n) = accepted_by p k
accepted_by p (not_watched k stakes genesis number words s n) = accepted_by p k

-- What a node's host, and a watcher's, sees accepted is what was.
pub record AcceptedSeen (p : Arrival → Bool) (stakes : List ℕ) (genesis : ℕ) (v : Seen) : Type 0 where
  pub node : (own : ℕ) (h : Life stakes own genesis v) → accepted_by p h.calls ≡ some_accepted p (begun_as stakes genesis v) v.came
  pub watcher : (h : Watch stakes genesis v) → accepted_by p h.calls ≡ some_accepted p (begun_as stakes genesis v) v.came

abbrev pub AcceptedIsSeen : Type 0
AcceptedIsSeen = (p : Arrival → Bool) (stakes : List ℕ) (genesis : ℕ) (v : Seen) → AcceptedSeen p stakes genesis v
