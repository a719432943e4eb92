-- Computed cases of finality of ancestors: the walk, what halts it, and two final blocks in one slot.
use Rattle.std.specs.Prelude.{Bool, ◌&&◌, List, [], ◌∷◌, ◌++◌, ℕ, length, T}
use Rattle.rulebook.specs.declared.Input.{Input}
use Rattle.rulebook.specs.Ledger.{Ledger, fresh, row_at, put_timed_out, put_final, put_clash}
use Rattle.rulebook.specs.Rules.{rule_g}
use Rattle.rulebook.specs.Inputs.{feed}
use Rattle.rulebook.specs.Scripts.{vote, block, look, flatten, answers, stored, told, told_by, all_armed, ring, equal, equals, all}
use Rattle.rulebook.specs.Computes.{rules}

-- A ring with its windows armed, whose own node never votes: no block of these cases has the parent that B asks for. Node 1 has 80
-- percent.
abbrev watching : Ledger
watching = all_armed (ring (1 ∷ 8 ∷ 1 ∷ []) [])

-- Node 1's vote, which makes a block final.
abbrev seal : ℕ → ℕ → Input
seal s b = vote 1 1 s b

-- Blocks 21, 31, 41 and 51 of slots 2 to 5, each the parent of the next; 21 is a child of genesis.
abbrev second : Input
second = block 2 21 0 1

abbrev third : Input
third = block 3 31 2 21

abbrev fourth : Input
fourth = block 4 41 3 31

abbrev fifth : Input
fifth = block 5 51 4 41

-- A chain of four made final by its last block in one walk, highest slot first; genesis gets no record, and all is told once.
abbrev whole_chain : Bool
whole_chain =
    equals (answers (stored watching (second ∷ third ∷ fourth ∷ fifth ∷ [])) (look ∷ seal 5 51 ∷ look ∷ vote 1 2 5 51 ∷ []))
    ((0 ∷ []) ∷ (0 ∷ 6 ∷ 5 ∷ 51 ∷ 6 ∷ 4 ∷ 41 ∷ 6 ∷ 3 ∷ 31 ∷ 6 ∷ 2 ∷ 21 ∷ []) ∷ (0 ∷ []) ∷ (0 ∷ []) ∷ [])

-- "A missing block halts the walk until it is announced": another block of that slot, or that number in another, does not resume it.
abbrev halted : Bool
halted =
    equals (answers (stored watching (second ∷ fourth ∷ fifth ∷ [])) (seal 5 51 ∷ block 3 32 2 22 ∷ block 4 31 2 21 ∷ third ∷ []))
    ((0 ∷ 6 ∷ 5 ∷ 51 ∷ 6 ∷ 4 ∷ 41 ∷ 6 ∷ 3 ∷ 31 ∷ []) ∷ (0 ∷ []) ∷ (0 ∷ []) ∷ (0 ∷ 6 ∷ 2 ∷ 21 ∷ []) ∷ [])
    && equals (answers (stored watching (second ∷ third ∷ fourth ∷ [])) (seal 5 51 ∷ fifth ∷ []))
    ((0 ∷ 6 ∷ 5 ∷ 51 ∷ []) ∷ (0 ∷ 6 ∷ 4 ∷ 41 ∷ 6 ∷ 3 ∷ 31 ∷ 6 ∷ 2 ∷ 21 ∷ []) ∷ [])

-- The final block is found in each of the four places.
abbrev each_place : Bool
each_place =
    let other : ℕ → Input = (λ b. block 5 b 3 31) in
    let walk : List Input → List ℕ = (λ is. told_by rule_g 5 (put_final (stored watching is) 5 51)) in
    let parent : List ℕ = 6 ∷ 4 ∷ 41 ∷ [] in
    equals (walk (fifth ∷ other 52 ∷ []) ∷ walk (other 52 ∷ fifth ∷ []) ∷ walk (other 52 ∷ other 53 ∷ fifth ∷ []) ∷ walk (other 52 ∷ other 53 ∷ other 54 ∷ fifth ∷ []) ∷ [])
    (parent ∷ parent ∷ parent ∷ parent ∷ [])

-- Over slots without a block, and over windows.
abbrev over_windows : Bool
over_windows =
    equal (told (stored watching (second ∷ block 7 71 2 21 ∷ block 14 91 7 71 ∷ seal 14 91 ∷ [])))
    (6 ∷ 14 ∷ 91 ∷ 6 ∷ 7 ∷ 71 ∷ 6 ∷ 2 ∷ 21 ∷ [])

-- Slot 3 has the final block 30 when the walk comes with 31: (8, 3, 31), and no further, so 21 is not final. It is told once, whatever
-- comes again: a look, another walk with another block, and F with a third.
abbrev meets_another : Bool
meets_another =
    equals (answers (stored watching (second ∷ third ∷ fourth ∷ fifth ∷ block 6 61 3 32 ∷ [])) (seal 3 30 ∷ seal 5 51 ∷ look ∷ seal 6 61 ∷ []))
    ((0 ∷ 6 ∷ 3 ∷ 30 ∷ []) ∷ (0 ∷ 6 ∷ 5 ∷ 51 ∷ 6 ∷ 4 ∷ 41 ∷ 8 ∷ 3 ∷ 31 ∷ []) ∷ (0 ∷ []) ∷ (0 ∷ 6 ∷ 6 ∷ 61 ∷ []) ∷ [])
    && equals (answers (stored watching (fourth ∷ block 6 61 3 32 ∷ [])) (seal 4 41 ∷ seal 6 61 ∷ seal 3 33 ∷ []))
    ((0 ∷ 6 ∷ 4 ∷ 41 ∷ 6 ∷ 3 ∷ 31 ∷ []) ∷ (0 ∷ 6 ∷ 6 ∷ 61 ∷ 8 ∷ 3 ∷ 32 ∷ []) ∷ (0 ∷ []) ∷ [])

-- Slot 4 is final by a walk when F's condition comes to hold for 40 or for 42: (8, 4, b), once in all, also for a walk that comes later;
-- nothing where it comes to hold for that very block.
abbrev newcomer : Bool
newcomer =
    let l = stored watching (fifth ∷ block 6 61 4 43 ∷ []) in
    let walked = feed l (seal 5 51) in
    equal (flatten walked.records) (6 ∷ 5 ∷ 51 ∷ 6 ∷ 4 ∷ 41 ∷ [])
    && equals (answers walked.ledger (seal 4 42 ∷ vote 1 2 4 42 ∷ look ∷ seal 6 61 ∷ [])) ((0 ∷ 8 ∷ 4 ∷ 42 ∷ []) ∷ (0 ∷ []) ∷ (0 ∷ []) ∷ (0 ∷ 6 ∷ 6 ∷ 61 ∷ []) ∷ [])
    && equals (answers walked.ledger (seal 4 40 ∷ [])) ((0 ∷ 8 ∷ 4 ∷ 40 ∷ []) ∷ [])
    && equals (answers l (seal 6 61 ∷ seal 4 43 ∷ [])) ((0 ∷ 6 ∷ 6 ∷ 61 ∷ 6 ∷ 4 ∷ 43 ∷ []) ∷ (0 ∷ []) ∷ [])

-- Certificates that came before the walk: F of each slot, then the walk of the higher, which finds 30 in its way.
abbrev certificates_first : Bool
certificates_first =
    equal (told (stored watching (third ∷ fourth ∷ fifth ∷ seal 3 30 ∷ seal 5 51 ∷ []))) (6 ∷ 3 ∷ 30 ∷ 6 ∷ 5 ∷ 51 ∷ 6 ∷ 4 ∷ 41 ∷ 8 ∷ 3 ∷ 31 ∷ [])

-- The walk comes after F in a slot.
abbrev FbeforeG : Bool
FbeforeG = equal (told (put_final (stored watching (fifth ∷ seal 5 52 ∷ [])) 5 51)) (8 ∷ 5 ∷ 52 ∷ 6 ∷ 4 ∷ 41 ∷ [])

-- The walk alone, from slot 5: through a slot that has that very final block it goes on without a record, from one that has another,
-- higher or lower, it goes no further; a slot without a final block starts none.
abbrev through : Bool
through =
    let l = stored watching (third ∷ fourth ∷ block 4 42 3 32 ∷ block 4 40 3 31 ∷ fifth ∷ []) in
    let walk : Ledger → List ℕ = told_by rule_g 5 in
    equals (walk (put_final (put_final l 4 41) 5 51) ∷ walk (put_final (put_final (put_final l 3 31) 4 41) 5 51) ∷ walk (put_final (put_final l 4 42) 5 51) ∷ walk (put_final (put_final l 4 40) 5 51) ∷ walk (put_final l 4 41) ∷ [])
    ((6 ∷ 3 ∷ 31 ∷ 6 ∷ 2 ∷ 21 ∷ []) ∷ (6 ∷ 2 ∷ 21 ∷ []) ∷ (8 ∷ 4 ∷ 41 ∷ []) ∷ (8 ∷ 4 ∷ 41 ∷ []) ∷ [] ∷ [])

-- Under genesis 9, with numbers that are not above their slots: down to genesis, which gets no record.
abbrev small_numbers : Bool
small_numbers =
    let l = all_armed (fresh (1 ∷ 8 ∷ 1 ∷ []) 0 9) in
    equal (told (stored l (block 2 1 0 9 ∷ block 3 2 2 1 ∷ block 4 4 3 2 ∷ block 5 3 4 4 ∷ seal 5 3 ∷ []))) (6 ∷ 5 ∷ 3 ∷ 6 ∷ 4 ∷ 4 ∷ 6 ∷ 3 ∷ 2 ∷ 6 ∷ 2 ∷ 1 ∷ [])

-- The final block, the mark and the timeout of a slot.
abbrev marks_of : Ledger → ℕ → List ℕ
marks_of l s = let r = row_at l s in r.final ∷ r.clash ∷ r.timed_out ∷ []

-- Where slots 5 and 4 become final, a mark and a timeout that stand there stay, and none comes; a newcomer's mark leaves the final block.
abbrev marks_stay : Bool
marks_stay =
    let l = stored watching (fifth ∷ []) in
    let sealed : Ledger → List (List ℕ) = (λ m. let n = (feed m (seal 5 51)).ledger in marks_of n 5 ∷ marks_of n 4 ∷ []) in
    equals (sealed l ++ (sealed (put_timed_out (put_timed_out l 5) 4) ++ sealed (put_clash (put_clash l 5) 4)))
    ((51 ∷ 0 ∷ 0 ∷ []) ∷ (41 ∷ 0 ∷ 0 ∷ []) ∷ (51 ∷ 0 ∷ 1 ∷ []) ∷ (41 ∷ 0 ∷ 1 ∷ []) ∷ (51 ∷ 1 ∷ 0 ∷ []) ∷ (41 ∷ 1 ∷ 0 ∷ []) ∷ [])
    && equal (marks_of (feed (put_final (put_timed_out l 5) 5 52) (seal 5 51)).ledger 5) (52 ∷ 1 ∷ 1 ∷ [])

corners_of_ancestors : T (all (whole_chain ∷ halted ∷ each_place ∷ over_windows ∷ meets_another ∷ newcomer ∷ certificates_first ∷ FbeforeG ∷ through ∷ small_numbers ∷ marks_stay ∷ []))
unfolding rules
corners_of_ancestors = tt
