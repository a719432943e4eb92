-- Computed cases of the refusals: every number in its place in the order, and each of the ways in which an input earns it.
use Rattle.std.specs.Prelude.{Bool, true, false, not, ◌&&◌, List, [], ◌∷◌, ◌++◌, ℕ, ◌-◌, ◌^◌, replicate, T}
use Rattle.rulebook.specs.declared.Input.{Input}
use Rattle.rulebook.specs.declared.Cell.{Cell}
use Rattle.rulebook.specs.declared.VoteKind.{VoteKind}
use Rattle.rulebook.specs.declared.VoteKind.TheVariants as kind
use Rattle.rulebook.specs.declared.Place.TheVariants as place
use Rattle.rulebook.specs.PaperNumbers.{verdict_number, place_number, write_panel, kind_in}
use Rattle.rulebook.specs.Ledger.{Ledger, cell_at, put_armed, put_timed_out, fresh, keeps_block}
use Rattle.rulebook.specs.Votes.{with_vote}
use Rattle.rulebook.specs.Inputs.{start_verdict}
use Rattle.rulebook.specs.Writers.{write_certificate, write_proof, over}
use Rattle.rulebook.specs.Scripts.{vote, block, timeout, look, answers, stored, later_armed, all_armed, cell, ring, equal, equals, all}
use Rattle.rulebook.specs.Computes.{rules}

-- Three nodes of stakes 8, 1, 1, the windows armed: nothing that nodes 1 and 2 say reaches any threshold.
abbrev three : Ledger
three = all_armed (ring (8 ∷ 1 ∷ 1 ∷ []) [])

-- Each vote is wrong in every later way too, as far as one vote can be; 2 just past the table and far beyond it; 5 for each kind.
abbrev vote_order : Bool
vote_order =
    equals (answers three (vote 0 99 17 0 ∷ vote 6 99 17 0 ∷ vote 1 99 17 0 ∷ vote 1 99 0 0 ∷ vote 1 3 1 0 ∷ vote 1 99 1 0 ∷ vote 1 0 1 0
    ∷ vote 1 1 1 0 ∷ vote 2 1 1 0 ∷ vote 3 1 1 5 ∷ vote 4 1 1 5 ∷ vote 5 1 1 5 ∷ []))
    ((4 ∷ []) ∷ (4 ∷ []) ∷ (3 ∷ []) ∷ (3 ∷ []) ∷ (2 ∷ []) ∷ (2 ∷ []) ∷ (6 ∷ []) ∷ (5 ∷ []) ∷ (5 ∷ []) ∷ (5 ∷ []) ∷ (5 ∷ []) ∷ (5 ∷ []) ∷ [])

-- 7 before 8, in each place of a cell, for genesis's number as for any; the last slot has its places too.
abbrev places : Bool
places =
    equals (answers three (vote 1 1 1 1 ∷ vote 1 1 1 1 ∷ vote 1 1 1 8 ∷ vote 3 1 1 0 ∷ vote 3 2 1 0 ∷ vote 3 2 1 0 ∷ vote 1 2 1 7
    ∷ vote 2 1 1 1 ∷ vote 2 1 1 22 ∷ vote 2 1 1 23 ∷ vote 2 1 1 22 ∷ vote 2 1 1 24
    ∷ vote 4 1 1 0 ∷ vote 4 1 1 0 ∷ vote 5 1 16 0 ∷ vote 5 1 16 0 ∷ []))
    ((0 ∷ []) ∷ (7 ∷ []) ∷ (8 ∷ []) ∷ (8 ∷ []) ∷ (0 ∷ []) ∷ (7 ∷ []) ∷ (8 ∷ []) ∷ (0 ∷ []) ∷ (0 ∷ []) ∷ (0 ∷ []) ∷ (7 ∷ []) ∷ (8 ∷ [])
    ∷ (0 ∷ []) ∷ (7 ∷ []) ∷ (0 ∷ []) ∷ (7 ∷ []) ∷ [])

-- A cell's seven places in their order, and a node's in a slot.
abbrev seven : Cell → List ℕ
seven c = c.notar ∷ c.skip ∷ c.fallback1 ∷ c.fallback2 ∷ c.fallback3 ∷ c.skipfallback ∷ c.finalvote ∷ []

abbrev kept : Ledger → ℕ → ℕ → List ℕ
kept l s n = seven (cell_at l s n)

-- A vote of each kind changes its place alone, whatever stands in the others; fallbacks fill theirs from the front.
abbrev own_place : Bool
own_place =
    let after : VoteKind → Cell → List ℕ = (λ k c. seven (with_vote c k 9)) in
    let full : Cell = cell 11 12 13 14 15 16 17 in
    equals (after kind.Notar full ∷ after kind.Skip full ∷ after kind.SkipFallback full ∷ after kind.Final full ∷ after kind.Other full ∷ after kind.NotarFallback full
    ∷ after kind.NotarFallback (cell 11 12 0 14 15 16 17) ∷ after kind.NotarFallback (cell 11 12 13 0 15 16 17) ∷ after kind.NotarFallback (cell 11 12 13 14 0 16 17) ∷ after kind.NotarFallback (cell 0 0 0 0 0 0 0) ∷ [])
    ((9 ∷ 12 ∷ 13 ∷ 14 ∷ 15 ∷ 16 ∷ 17 ∷ []) ∷ (11 ∷ 1 ∷ 13 ∷ 14 ∷ 15 ∷ 16 ∷ 17 ∷ []) ∷ (11 ∷ 12 ∷ 13 ∷ 14 ∷ 15 ∷ 1 ∷ 17 ∷ []) ∷ (11 ∷ 12 ∷ 13 ∷ 14 ∷ 15 ∷ 16 ∷ 1 ∷ []) ∷ seven full ∷ seven full
    ∷ (11 ∷ 12 ∷ 9 ∷ 14 ∷ 15 ∷ 16 ∷ 17 ∷ []) ∷ (11 ∷ 12 ∷ 13 ∷ 9 ∷ 15 ∷ 16 ∷ 17 ∷ []) ∷ (11 ∷ 12 ∷ 13 ∷ 14 ∷ 9 ∷ 16 ∷ 17 ∷ []) ∷ (0 ∷ 0 ∷ 9 ∷ 0 ∷ 0 ∷ 0 ∷ 0 ∷ []) ∷ [])

-- What a vote finds at its place, as a number.
abbrev found : Bool
found = equal (place_number place.Free ∷ place_number place.Same ∷ place_number place.Taken ∷ []) (0 ∷ 7 ∷ 8 ∷ [])

-- Votes of a node in any order stand beside each other: an initial vote behind fallbacks of either kind and behind a final, and they behind
-- it. Each is kept in its place, and nothing else changes.
abbrev beside_each_other : Bool
beside_each_other =
    let others : List Input = vote 2 1 2 5 ∷ vote 4 1 2 0 ∷ vote 2 1 2 6 ∷ vote 5 1 2 0 ∷ vote 2 1 2 7 ∷ [] in
    let after : List Input → List ℕ = (λ is. kept (stored three is) 2 1) in
    equals (answers three (vote 2 1 2 9 ∷ vote 1 1 2 7 ∷ vote 5 2 2 0 ∷ vote 3 2 2 0 ∷ vote 5 1 3 0 ∷ vote 1 1 3 7 ∷ vote 2 2 3 8 ∷ vote 3 2 3 0 ∷ vote 4 1 4 0 ∷ vote 1 1 4 7 ∷ vote 5 1 4 0 ∷ []))
    (replicate 11 (0 ∷ []))
    && equals (after others ∷ after (others ++ (vote 1 1 2 8 ∷ [])) ∷ after (others ++ (vote 3 1 2 0 ∷ [])) ∷ after (vote 1 1 2 8 ∷ others) ∷ after (vote 3 1 2 0 ∷ others) ∷ [])
    ((0 ∷ 0 ∷ 5 ∷ 6 ∷ 7 ∷ 1 ∷ 1 ∷ []) ∷ (8 ∷ 0 ∷ 5 ∷ 6 ∷ 7 ∷ 1 ∷ 1 ∷ []) ∷ (0 ∷ 1 ∷ 5 ∷ 6 ∷ 7 ∷ 1 ∷ 1 ∷ []) ∷ (8 ∷ 0 ∷ 5 ∷ 6 ∷ 7 ∷ 1 ∷ 1 ∷ []) ∷ (0 ∷ 1 ∷ 5 ∷ 6 ∷ 7 ∷ 1 ∷ 1 ∷ []) ∷ [])

-- 11 for a parent in the slot itself, above it, or in slot 0 with another number than genesis, also where that very block is kept;
-- 7 needs number, parent's slot and parent equal; the number with another parent is 8.
abbrev block_order : Bool
block_order =
    equals (answers (stored three (block 2 8 0 7 ∷ block 3 9 1 7 ∷ [])) (block 17 0 18 0 ∷ block 0 0 18 0 ∷ block 2 0 2 0 ∷ block 2 8 2 0 ∷ block 2 8 2 7
    ∷ block 2 8 3 7 ∷ block 2 8 0 7 ∷ block 3 9 1 7 ∷ block 3 9 1 6 ∷ block 3 9 2 7 ∷ []))
    ((3 ∷ []) ∷ (3 ∷ []) ∷ (5 ∷ []) ∷ (5 ∷ []) ∷ (11 ∷ []) ∷ (11 ∷ []) ∷ (11 ∷ []) ∷ (7 ∷ []) ∷ (8 ∷ []) ∷ (8 ∷ []) ∷ [])

-- Four blocks of a slot are kept, each number with one parent; the fifth is 8, and so is a kept number with another parent, in each
-- place; that very block is 7 in each place, full or not. The same number in another slot has a parent of its own.
abbrev four_blocks : Bool
four_blocks =
    equals (answers three (block 3 9 1 7 ∷ block 3 6 1 7 ∷ block 3 6 1 7 ∷ block 3 6 2 7 ∷ block 3 8 2 6 ∷ block 3 7 0 1 ∷ block 3 5 1 7 ∷ block 4 5 1 7
    ∷ block 3 9 1 7 ∷ block 3 6 1 7 ∷ block 3 8 2 6 ∷ block 3 7 0 1 ∷ block 3 9 1 6 ∷ block 3 6 1 6 ∷ block 3 8 1 6 ∷ block 3 7 1 1 ∷ block 4 9 3 6 ∷ []))
    ((0 ∷ []) ∷ (0 ∷ []) ∷ (7 ∷ []) ∷ (8 ∷ []) ∷ (0 ∷ []) ∷ (0 ∷ []) ∷ (8 ∷ []) ∷ (0 ∷ [])
    ∷ (7 ∷ []) ∷ (7 ∷ []) ∷ (7 ∷ []) ∷ (7 ∷ []) ∷ (8 ∷ []) ∷ (8 ∷ []) ∷ (8 ∷ []) ∷ (8 ∷ []) ∷ (0 ∷ []) ∷ [])

-- A kept number announced again with a higher and a lower parent, and with a parent in a higher and in a lower slot, is 8; a higher and a
-- lower number with the kept one's parent is new. Block 0 with a good parent is 5. A number need not be above a slot.
abbrev announced_again : Bool
announced_again =
    equals (answers (stored three (block 4 8 2 7 ∷ [])) (block 4 8 2 8 ∷ block 4 8 2 6 ∷ block 4 8 3 7 ∷ block 4 8 1 7 ∷ block 4 0 2 7 ∷ block 4 9 2 7 ∷ block 4 2 2 7 ∷ block 4 8 2 7 ∷ block 4 1 3 1 ∷ []))
    ((8 ∷ []) ∷ (8 ∷ []) ∷ (8 ∷ []) ∷ (8 ∷ []) ∷ (5 ∷ []) ∷ (0 ∷ []) ∷ (0 ∷ []) ∷ (7 ∷ []) ∷ (0 ∷ []) ∷ [])

-- Which blocks of a slot are kept with which parents.
abbrev keeping : Bool
keeping =
    let l = stored three (block 4 8 2 7 ∷ block 4 9 3 6 ∷ []) in
    all (keeps_block l 4 8 2 7 ∷ keeps_block l 4 9 3 6 ∷ not (keeps_block l 3 8 2 7) ∷ not (keeps_block l 4 8 3 6) ∷ not (keeps_block l 4 9 2 6) ∷ not (keeps_block l 4 9 3 7) ∷ not (keeps_block l 4 7 2 7)
    ∷ not (keeps_block l 4 0 0 0) ∷ [])

-- Under genesis 9 a parent in slot 0 is 9, and any other is 11.
abbrev other_genesis : Bool
other_genesis =
    equals (answers (all_armed (fresh (8 ∷ 1 ∷ 1 ∷ []) 1 9)) (block 2 8 0 1 ∷ block 2 8 0 8 ∷ block 2 8 0 10 ∷ block 2 8 0 9 ∷ [])) ((11 ∷ []) ∷ (11 ∷ []) ∷ (11 ∷ []) ∷ (0 ∷ []) ∷ [])

abbrev timeout_order : Bool
timeout_order =
    equals (answers (put_timed_out (put_timed_out (put_armed (ring (8 ∷ 1 ∷ 1 ∷ []) []) 1) 5) 1) (timeout 17 ∷ timeout 0 ∷ timeout 5 ∷ timeout 1 ∷ []))
    ((3 ∷ []) ∷ (3 ∷ []) ∷ (10 ∷ []) ∷ (7 ∷ []) ∷ [])

-- A refused input runs no rule: the window is armed by the look after it.
abbrev no_rule_run : Bool
no_rule_run = equals (answers (later_armed (ring (8 ∷ 1 ∷ 1 ∷ []) [])) (vote 9 1 1 0 ∷ timeout 1 ∷ look ∷ [])) ((4 ∷ []) ∷ (10 ∷ []) ∷ (0 ∷ 7 ∷ 1 ∷ 0 ∷ []) ∷ [])

-- 1: no node, more than 2,048, a stake of 0, a total above 2^48, an own number just past the table and far beyond it, genesis 0.
abbrev starts : Bool
starts =
    equal (verdict_number (start_verdict [] 0 1) ∷ verdict_number (start_verdict (replicate 2049 1) 0 1) ∷ verdict_number (start_verdict (replicate 65 1) 64 1)
    ∷ verdict_number (start_verdict (1 ∷ 0 ∷ []) 0 1) ∷ verdict_number (start_verdict ((2 ^ 48) ∷ 1 ∷ []) 0 1) ∷ verdict_number (start_verdict ((2 ^ 48 - 1) ∷ 1 ∷ []) 0 1)
    ∷ verdict_number (start_verdict (1 ∷ []) 1 1) ∷ verdict_number (start_verdict (1 ∷ 1 ∷ []) 9 1) ∷ verdict_number (start_verdict (1 ∷ []) 0 0) ∷ verdict_number (start_verdict (1 ∷ []) 0 9) ∷ [])
    (1 ∷ 1 ∷ 0 ∷ 1 ∷ 1 ∷ 0 ∷ 1 ∷ 1 ∷ 1 ∷ 0 ∷ [])

-- ---- the writers

-- In slot 1 block 7 has 80 percent of notar votes and kinds 1, 2, 3 and 5 are held; kind 4 is not.
abbrev voted : Ledger
voted = ring (6 ∷ 2 ∷ 2 ∷ []) (cell 7 0 0 0 0 0 1 ∷ cell 7 0 7 0 0 0 0 ∷ cell 0 1 7 0 0 1 0 ∷ [])

abbrev writer_order : Bool
writer_order =
    let certificate : ℕ → ℕ → ℕ → ℕ → ℕ = (λ room k s b. (write_panel (write_certificate voted room (kind_in 3 k) s b).answer).number) in
    let proof : ℕ → ℕ → ℕ → ℕ = (λ room s b. (write_panel (write_proof voted room s b).answer).number) in
    equal (certificate 31 9 0 0 ∷ certificate 32 9 0 0 ∷ certificate 32 1 0 0 ∷ certificate 32 1 17 0 ∷ certificate 32 1 1 0 ∷ certificate 32 2 1 0 ∷ certificate 32 3 1 0
    ∷ certificate 32 4 1 7 ∷ certificate 32 5 1 7 ∷ certificate 32 1 1 8 ∷ certificate 32 4 1 0 ∷ certificate 32 1 1 7 ∷ certificate 32 2 1 7 ∷ certificate 32 3 1 7
    ∷ certificate 32 5 1 0 ∷ certificate 33 5 1 0 ∷ proof 63 0 0 ∷ proof 64 0 0 ∷ proof 64 17 0 ∷ proof 64 1 0 ∷ proof 64 1 8 ∷ proof 64 1 7 ∷ proof 999 1 7 ∷ [])
    (9 ∷ 4 ∷ 3 ∷ 3 ∷ 5 ∷ 5 ∷ 5 ∷ 5 ∷ 5 ∷ 18 ∷ 18 ∷ 0 ∷ 0 ∷ 0 ∷ 0 ∷ 0 ∷ 9 ∷ 3 ∷ 3 ∷ 5 ∷ 18 ∷ 0 ∷ 0 ∷ [])

-- All stored signers, a node with both votes in mask A alone; a refused writer writes nothing; bytes past a packet stay.
abbrev written : Bool
written =
    let certificate : ℕ → ℕ → List ℕ = (λ k b. (write_certificate voted 32 (kind_in 3 k) 1 b).bytes) in
    let skipped = ring (3 ∷ 3 ∷ 4 ∷ []) (cell 0 1 0 0 0 1 0 ∷ cell 7 0 0 0 0 1 1 ∷ cell 7 0 0 0 0 0 1 ∷ []) in
    equals (certificate 1 7 ∷ certificate 2 7 ∷ certificate 3 7 ∷ certificate 5 0 ∷ certificate 4 0 ∷ (write_proof voted 64 1 7).bytes ∷ (write_proof voted 63 1 7).bytes
    ∷ (write_certificate skipped 32 (kind_in 3 4) 1 0).bytes ∷ (write_proof skipped 64 1 7).bytes ∷ over (1 ∷ 2 ∷ []) (6 ∷ 7 ∷ 8 ∷ 9 ∷ []) ∷ over [] (6 ∷ 7 ∷ []) ∷ [])
    ((1 ∷ 1 ∷ 7 ∷ 3 ∷ 0 ∷ []) ∷ (2 ∷ 1 ∷ 7 ∷ 3 ∷ 0 ∷ []) ∷ (3 ∷ 1 ∷ 7 ∷ 3 ∷ 4 ∷ []) ∷ (5 ∷ 1 ∷ 0 ∷ 1 ∷ 0 ∷ []) ∷ [] ∷ (1 ∷ 1 ∷ 7 ∷ 3 ∷ 0 ∷ []) ∷ []
    ∷ (4 ∷ 1 ∷ 0 ∷ 1 ∷ 2 ∷ []) ∷ (2 ∷ 1 ∷ 7 ∷ 6 ∷ 0 ∷ 5 ∷ 1 ∷ 0 ∷ 6 ∷ 0 ∷ []) ∷ (1 ∷ 2 ∷ 8 ∷ 9 ∷ []) ∷ (6 ∷ 7 ∷ []) ∷ [])

corners_of_refusals : T (all (vote_order ∷ places ∷ own_place ∷ found ∷ beside_each_other ∷ block_order ∷ four_blocks ∷ announced_again ∷ keeping ∷ other_genesis ∷ timeout_order ∷ no_rule_run ∷ starts ∷ writer_order ∷ written ∷ []))
unfolding rules
corners_of_refusals = tt
