-- The operations that a life's calls are of, what arrives with a call, and the records of an outbox.
use Rattle.std.specs.Prelude.{◌&&◌, List, [], ◌∷◌, map, ℕ, zero, suc, ◌%◌, length, eqb, leb}
use Rattle.rulebook.specs.declared.Input.{Input}
use Rattle.rulebook.specs.declared.Input.TheVariants as input
use Rattle.rulebook.specs.Tools.{whenever}
use Rattle.rulebook.specs.Rules.{Record, record_of}
use Rattle.rulebook.specs.Taking.{Arrival, of_input, of_packet}
use Rattle.rulebook.specs.WellFormed.{outbox_words}
use Rattle.tray_rules.specs.Trays.{votes_in, whole_votes}

-- What was called: a step with its input, a tray with the votes' words and the words of the answer buffer, as lent and as left, or the taking of
-- a certificate packet.
pub data Operation : Type 0 where
  one_input : Input → Operation
  a_tray : (votes places answers : List ℕ) → Operation
  a_packet : List ℕ → Operation

-- One thing arrives where the outbox has room.
unfoldable pub one_with : Arrival → List ℕ → List Arrival
one_with i lent = whenever (leb outbox_words (length lent)) (λ _. i ∷ []) []

-- What arrives with a call: with a step its input, with a tray its votes, with a certificate packet that packet. Nothing arrives with a call
-- without room in its outbox, or for a tray's answers, nor with a tray that has a part of a vote at its end.
unfoldable pub fed_by : Operation → List ℕ → List Arrival
fed_by (one_input i) lent = one_with (of_input i) lent
fed_by (a_tray votes places answers) lent =
    whenever (leb outbox_words (length lent) && leb (whole_votes votes) (length places))
    (λ _. whenever (eqb (length votes % 4) 0) (λ _. map (λ v. of_input (input.Vote v)) (votes_in votes)) [])
    []
fed_by (a_packet packet) lent = one_with (of_packet packet) lent

-- The first n records of an outbox, three words each.
unfoldable pub first_records : ℕ → List ℕ → List Record
first_records zero ws = []
first_records (suc n) [] = []
first_records (suc n) (k ∷ []) = []
first_records (suc n) (k ∷ s ∷ []) = []
first_records (suc n) (k ∷ s ∷ b ∷ ws) = record_of k s b ∷ first_records n ws
