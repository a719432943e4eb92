-- A tray: a run of votes taken in one call, four words a vote.
use Rattle.std.specs.Prelude.{◌&&◌, List, [], ◌∷◌, ◌++◌, ℕ, ◌/◌, ◌%◌, length, eqb, leb, Result, Ok, Err}
use Rattle.rulebook.specs.declared.Vote.{Vote}
use Rattle.rulebook.specs.declared.Input.TheVariants as input
use Rattle.rulebook.specs.declared.Refusal.{Refusal}
use Rattle.rulebook.specs.declared.Refusal.TheVariants as refusal
use Rattle.rulebook.specs.Tools.{whenever}
use Rattle.rulebook.specs.PaperNumbers.{step_panel}
use Rattle.rulebook.specs.Ledger.{Ledger}
use Rattle.rulebook.specs.Rules.{Record}
use Rattle.rulebook.specs.Inputs.{feed}
use Rattle.rulebook.specs.Messages.{vote_of}
use Rattle.rulebook.specs.WellFormed.{well_formed, outbox_words, step}

-- "four 64-bit words a vote (kind, node, slot, block)": the whole votes of a run of words, in their order; "a part of a vote at the end" is
-- none.
unfoldable pub votes_in : List ℕ → List Vote
votes_in [] = []
votes_in (k ∷ []) = []
votes_in (k ∷ n ∷ []) = []
votes_in (k ∷ n ∷ s ∷ []) = []
votes_in (k ∷ n ∷ s ∷ b ∷ ws) = vote_of k n s b ∷ votes_in ws

-- How many they are.
abbrev pub whole_votes : List ℕ → ℕ
whole_votes ws = length ws / 4

-- What a run of votes leaves: "one answer per vote", the ledger, and the records of all votes in the order in which they were made.
pub record Served : Type 0 where
  pub numbers : List ℕ
  pub ledger : Ledger
  pub records : List Record

-- What comes of the first votes stands in front of what comes of the later ones.
abbrev pub ahead : List ℕ → List Record → Served → Served
ahead ns rs t = record { numbers = ns ++ t.numbers; ledger = t.ledger; records = rs ++ t.records }

-- "Answers, records in order and node must equal feeding them singly, a refused vote in the middle included."
unfoldable pub serve : Ledger → List Vote → Served
serve l [] = record { numbers = []; ledger = l; records = [] }
serve l (v ∷ vs) =
    let f = feed l (input.Vote v) in ahead ((step_panel f.answer).number ∷ []) f.records (serve f.ledger vs)

-- The tray's own answer beside what its votes leave.
pub record Tray : Type 0 where
  pub answer : Result ℕ Refusal
  pub served : Served

-- A refused tray takes nothing.
unfoldable pub tray_refused : Ledger → Refusal → Tray
tray_refused l r = record { answer = Err r; served = serve l [] }

-- The number of records of all votes together.
unfoldable pub tray_served : Served → Tray
tray_served t = record { answer = Ok (length t.records); served = t }

-- "17 and 9 are tested once at the start; 9 also when the answer buffer has fewer places than the run has whole votes"; then "a part
-- of a vote at the end is 12": a tray for a node whose outbox has so many words and whose answer buffer so many places.
unfoldable pub tray : Ledger → ℕ → ℕ → List ℕ → Tray
tray l room places ws =
    whenever (well_formed l)
    (λ _. whenever (leb outbox_words room && leb (whole_votes ws) places)
    (λ _. whenever (eqb (length ws % 4) 0) (λ _. tray_served (serve l (votes_in ws))) (tray_refused l refusal.BadLength))
    (tray_refused l refusal.NoRoom))
    (tray_refused l refusal.BadRecord)

-- The same votes as so many single calls, each with its own tests of the record and of the outbox.
unfoldable pub singly : Ledger → ℕ → List Vote → Served
singly l room [] = record { numbers = []; ledger = l; records = [] }
singly l room (v ∷ vs) =
    let f = step l room (input.Vote v) in ahead ((step_panel f.answer).number ∷ []) f.records (singly f.ledger room vs)
