-- Computed cases of slots that are passed over, and of what keeps a slot from it.
use Rattle.std.specs.Prelude.{Bool, true, false, not, List, [], ◌∷◌, ℕ, set, T, eqb}
use Rattle.rulebook.specs.Ledger.{Ledger, certificates_at, put_certificates, put_final, put_armed, fresh}
use Rattle.rulebook.specs.Scripts.{vote, block, stored, cell, with_votes, all_armed, all}
use Rattle.rulebook.specs.Computes.{rules}
use Rattle.looks.specs.Looks.{is_short}
use Rattle.dormancy.specs.Dormant.{is_idle, seeks_parent, is_stranded, first_asked, is_bare, names_kept, leads_anew, is_dormant}

-- Node 1 has 80 percent, the own node and node 2 ten each.
abbrev untouched : Ledger
untouched = fresh (1 ∷ 8 ∷ 1 ∷ []) 0 1

-- With all windows armed.
abbrev armed : Ledger
armed = all_armed untouched

-- Passed over without anything kept in mind.
abbrev dormant : Ledger → ℕ → Bool
dormant l s = is_dormant l [] s

-- A slot with nothing in it is passed over, and one with votes of others that make no block final, or only the one that is.
abbrev passed_over : Bool
passed_over =
    all (dormant armed 3 ∷ dormant (stored armed (vote 1 2 3 7 ∷ vote 5 1 3 0 ∷ vote 3 1 3 0 ∷ [])) 3
    ∷ dormant (put_final (stored armed (vote 1 1 3 7 ∷ [])) 3 7) 3 ∷ [])

-- Not so where a block may become final by its votes, or by a certificate that another firm sent; where the node voted; where a block is
-- kept.
abbrev looked : Bool
looked =
    all (not (dormant (stored armed (vote 1 1 3 7 ∷ [])) 3) ∷ not (dormant (put_final (stored armed (vote 1 1 3 7 ∷ [])) 3 8) 3)
    ∷ not (dormant (put_certificates armed 3 (set (certificates_at armed 3) 12 (record { block = 7; maska = 2; maskb = 0 }))) 3)
    ∷ not (dormant (with_votes armed 3 0 (cell 7 0 0 0 0 0 0)) 3) ∷ not (dormant (with_votes armed 3 0 (cell 0 1 0 0 0 0 0)) 3)
    ∷ not (dormant (stored armed (block 3 31 2 21 ∷ [])) 3) ∷ [])

-- Kept in mind: so much in slot 4, all in the slots below it.
abbrev mind : ℕ → List ℕ
mind w = 10 ∷ 10 ∷ 10 ∷ 10 ∷ w ∷ []

-- Nor the first slot of a window that is to be armed: slot 1, and another where nothing is kept in mind of the slot before, or 60 percent are;
-- where skips hold there, by votes or by a certificate that another firm sent; or where such a certificate names a block.
abbrev to_arm : Bool
to_arm =
    let first = put_armed untouched 1 in
    all (not (dormant untouched 1) ∷ dormant first 1 ∷ not (dormant first 5)
    ∷ is_dormant first (mind 5) 5 ∷ not (is_dormant first (mind 6) 5)
    ∷ is_dormant (stored first (vote 4 2 4 0 ∷ vote 2 2 4 7 ∷ [])) (mind 2) 5 ∷ not (is_dormant (stored first (vote 3 1 4 0 ∷ [])) (mind 1) 5)
    ∷ not (is_dormant (put_certificates first 4 (set (certificates_at first 4) 2 (record { block = 0; maska = 2; maskb = 0 }))) (mind 1) 5)
    ∷ not (is_dormant (put_certificates first 4 (set (certificates_at first 4) 12 (record { block = 7; maska = 2; maskb = 0 }))) (mind 1) 5)
    ∷ dormant (stored first (vote 2 2 4 7 ∷ [])) 6 ∷ [])

-- A window's first slot with a block kept is not passed over, and A and B are not asked of it where the slot before makes no parent ready; in
-- slot 1, in a later slot of a window, and where nothing is kept in mind or 60 percent are, all are.
abbrev behind : Bool
behind =
    let first = stored (put_armed untouched 1) (block 5 51 4 41 ∷ block 6 61 5 51 ∷ []) in
    all (not (is_dormant first (mind 5) 5) ∷ is_stranded first (mind 5) 5 ∷ not (is_stranded first (mind 6) 5) ∷ not (is_stranded first [] 5)
    ∷ not (is_stranded first (mind 5) 6) ∷ not (is_stranded first (5 ∷ 5 ∷ []) 1) ∷ eqb (first_asked true) 2 ∷ eqb (first_asked false) 0 ∷ [])

corners_of_dormancy : T (all (passed_over ∷ looked ∷ to_arm ∷ behind ∷ []))
unfolding rules is_short is_idle seeks_parent is_stranded first_asked is_bare names_kept leads_anew is_dormant
corners_of_dormancy = tt
