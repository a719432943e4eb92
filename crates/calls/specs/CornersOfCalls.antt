-- Computed cases of calls: how an outbox is read, and what arrives with a call.
use Rattle.std.specs.Prelude.{Bool, List, [], ◌∷◌, ℕ, T, eqb, length, replicate}
use Rattle.rulebook.specs.declared.Input.TheVariants as input
use Rattle.rulebook.specs.Scripts.{flatten, equal, all}
use Rattle.rulebook.specs.Computes.{rules}
use Rattle.tray_rules.specs.Trays.{votes_in}
use Rattle.calls.specs.Operation.{Operation, one_input, a_tray, a_packet, one_with, fed_by, first_records}

-- As many records as were made, whatever stands past them; a part of a record is none.
abbrev reads : Bool
reads =
    all (equal (flatten (first_records 2 (6 ∷ 1 ∷ 7 ∷ 7 ∷ 1 ∷ 0 ∷ 9 ∷ 9 ∷ 9 ∷ []))) (6 ∷ 1 ∷ 7 ∷ 7 ∷ 1 ∷ 0 ∷ [])
    ∷ equal (flatten (first_records 0 (6 ∷ 1 ∷ 7 ∷ []))) []
    ∷ equal (flatten (first_records 2 (6 ∷ 1 ∷ 7 ∷ 7 ∷ 1 ∷ []))) (6 ∷ 1 ∷ 7 ∷ []) ∷ [])

-- So many things arrive with a call whose outbox has so many words.
abbrev bring : ℕ → Operation → ℕ → Bool
bring words o n = eqb (length (fed_by o (replicate words 0))) n

-- One with a step or a packet, each vote with a tray; none without room for records or answers, nor with a part of a vote.
abbrev arrives : Bool
arrives =
    let one : List ℕ = 1 ∷ 1 ∷ 1 ∷ 7 ∷ [] in
    let two : List ℕ = 1 ∷ 1 ∷ 1 ∷ 7 ∷ 1 ∷ 2 ∷ 1 ∷ 7 ∷ [] in
    all (bring 480 (one_input input.Look) 1
    ∷ bring 479 (one_input input.Look) 0
    ∷ bring 480 (a_packet (9 ∷ [])) 1
    ∷ bring 479 (a_packet (9 ∷ [])) 0
    ∷ bring 480 (a_tray two (0 ∷ 0 ∷ []) []) 2
    ∷ bring 479 (a_tray two (0 ∷ 0 ∷ []) []) 0
    ∷ bring 480 (a_tray two (0 ∷ []) []) 0
    ∷ bring 480 (a_tray (1 ∷ one) (0 ∷ 0 ∷ []) []) 0 ∷ [])

corners_of_calls : T (all (reads ∷ arrives ∷ []))
unfolding rules votes_in one_with fed_by first_records
corners_of_calls = tt
