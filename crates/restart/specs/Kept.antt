-- THE OWN VOTES THAT A RECORD KEEPS are those that its outboxes told.
use Rattle.std.specs.Prelude.{◌≡◌, true, List, ℕ, T, get_or}
use Rattle.rulebook.specs.declared.Cell.{Cell}
use Rattle.rulebook.specs.Weights.{slot_ok}
use Rattle.readers.specs.Asked.{votes_on}
use Rattle.answers.specs.Face.{VotesRead}
use Rattle.safety.specs.Slot.{Ballot}
use Rattle.safety.specs.Ballots.{has, record_for, among}
use Rattle.seen.specs.Seen.{Seen, NodeSeen}

-- The votes that qr_kept_votes tells by its seven words: the notar block, the mark of a skip, three notar-fallback blocks, the marks of a skip-fallback and
-- of a final vote.
abbrev pub cell_in : List ℕ → Cell
cell_in values =
    record {
      notar = get_or values 0 0;
      skip = get_or values 1 0;
      fallback1 = get_or values 2 0;
      fallback2 = get_or values 3 0;
      fallback3 = get_or values 4 0;
      skipfallback = get_or values 5 0;
      finalvote = get_or values 6 0;
    }

-- At every moment of a node's life: asked for the own votes of one of the slots 1 to 16, qr_kept_votes answers 0 and tells a vote exactly where the
-- outboxes ever told it. So a restarted host that sends them all again loses none and adds none.
abbrev pub KeptIsTold : Type 0
KeptIsTold =
    (stakes : List ℕ) (own genesis : ℕ) (v : Seen) → NodeSeen stakes own genesis v
    → (s number : ℕ) (values : List ℕ) → VotesRead (votes_on v.words s own) number values → slot_ok s ≡ true
    → (number ≡ 0) × ((b : Ballot) → has (cell_in values) b ≡ among v.told (record_for s b))

-- And no vote was ever told for another slot: asking for sixteen slots is asking for all.
abbrev pub ToldInSlots : Type 0
ToldInSlots =
    (stakes : List ℕ) (own genesis : ℕ) (v : Seen) → NodeSeen stakes own genesis v
    → (s : ℕ) (b : Ballot) → T (among v.told (record_for s b)) → slot_ok s ≡ true
