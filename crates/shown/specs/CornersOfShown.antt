-- Computed cases of what a record shows: through which slot a block is final, and of which slots anything is kept.
use Rattle.std.specs.Prelude.{Bool, not, ◌&&◌, [], ◌∷◌, T}
use Rattle.rulebook.specs.Ledger.{Ledger, put_final, fresh}
use Rattle.rulebook.specs.Scripts.{vote, block, stored, equal, all}
use Rattle.rulebook.specs.Computes.{rules}
use Rattle.shown.specs.Shown.{leads_to, lowest_slot, final_child, has_votes, has_certificates, touched}

-- Block 21 of slot 2 has children in slots 3, 4 and 16; in slot 4 a child of another block came first.
abbrev children : Ledger
children =
    stored (fresh (1 ∷ 1 ∷ 1 ∷ []) 0 1)
    (block 3 31 2 21 ∷ block 4 42 3 31 ∷ block 4 41 2 21 ∷ block 16 91 2 21 ∷ [])

-- Through the lowest slot whose final block is a child, in whichever place it is kept; a kept child that is not final shows nothing, nor
-- does a child of that number in another slot, or of another number.
abbrev through_slot : Bool
through_slot =
    let l = put_final (put_final children 4 41) 16 91 in
    equal (final_child l 2 21 ∷ final_child (put_final children 16 91) 2 21 ∷ final_child (put_final children 4 42) 2 21 ∷ final_child l 3 21 ∷ final_child l 2 22 ∷ final_child children 2 21 ∷ [])
    (4 ∷ 16 ∷ 0 ∷ 0 ∷ 0 ∷ 0 ∷ [])

-- A kept block, a final block and a vote each touch their slot, and no other.
abbrev touches : Bool
touches =
    let l = stored (put_final (fresh (1 ∷ 1 ∷ 1 ∷ []) 0 1) 5 51) (block 3 31 2 21 ∷ vote 5 2 16 0 ∷ []) in
    all (touched l 3 ∷ touched l 5 ∷ touched l 16 ∷ not (touched l 2) ∷ not (touched l 4) ∷ not (touched l 15) ∷ [])

corners_of_shown : T (all (through_slot ∷ touches ∷ []))
unfolding rules leads_to lowest_slot final_child has_votes has_certificates touched
corners_of_shown = tt
