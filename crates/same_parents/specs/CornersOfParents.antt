-- Computed cases of blocks with two parents: which pairs of places have lines, their order and words, room and refusals.
use Rattle.std.specs.Prelude.{◌≡◌, true, false, List, [], ◌∷◌, ◌++◌, ℕ, T}
use Rattle.rulebook.specs.declared.Block.{Block}
use Rattle.rulebook.specs.Ledger.{Ledger, fresh}
use Rattle.rulebook.specs.Inputs.{same_block, keep_block}
use Rattle.rulebook.specs.Scripts.{equals}
use Rattle.rulebook.specs.Computes.{rules}
use Rattle.record.specs.Layout.{ledger_of}
use Rattle.soundness.specs.Sound.{sound_words}
use Rattle.difference_lines.specs.Lines.{side_number, same_tables}
use Rattle.inquest.specs.Vouched.{one_block}
use Rattle.inquest_lines.specs.Lent.{Told, list_panel}
use Rattle.same_parents.specs.Parents.{spell_lines, lines_to, pair_lines, place_lines, block_lines, slot_lines, twice, twice_in, parents_on}

-- The panel's number and value, and the lines' words.
abbrev shown : Told → List (List ℕ)
shown t = let p = list_panel t.answer in (p.number ∷ p.values) ∷ t.words ∷ []

-- A block by its number, its parent's slot and number.
abbrev block : ℕ → ℕ → ℕ → Block
block b p x = record { number = b; parentslot = record { 0 = p }; parent = x }

abbrev nobody : Ledger
nobody = fresh (6 ∷ 4 ∷ []) 0 1

-- Both keep blocks 3 and 9 of slot 5, in other places and with other parents, by number and by slot; 2 with one parent; 4 and 8 one of
-- them alone. In slot 16 both keep 3 with one parent.
abbrev first : Ledger
first = keep_block (keep_block (keep_block (keep_block (keep_block nobody 5 (block 4 4 1)) 5 (block 3 4 1)) 5 (block 2 4 1)) 5 (block 9 4 1)) 16 (block 3 15 1)

abbrev second : Ledger
second = keep_block (keep_block (keep_block (keep_block (keep_block nobody 5 (block 9 3 1)) 5 (block 2 4 1)) 5 (block 3 4 2)) 5 (block 8 4 2)) 16 (block 3 15 1)

-- The last slot, where genesis is one of the parents.
abbrev late : Ledger
late = keep_block nobody 16 (block 3 0 1)

-- Two lines for each block, the first record's before the second's, in the order of the first record's places; one word too few is 9 with the
-- lines needed. The last slot is asked too. A record beside itself, and beside one that keeps nothing, has no line.
corners_of_parents : T (equals (shown (twice_in 20 (twice first second)) ++ (shown (twice_in 19 (twice first second)) ++ (shown (twice_in 99 (twice second first)) ++ (shown (twice_in 10 (twice first late)) ++ (shown (twice_in 0 (twice first first)) ++ shown (twice_in 0 (twice nobody first)))))))
    ((0 ∷ 4 ∷ []) ∷ ((5 ∷ 3 ∷ 4 ∷ 1 ∷ 1 ∷ []) ++ (5 ∷ 3 ∷ 4 ∷ 2 ∷ 2 ∷ []) ++ (5 ∷ 9 ∷ 4 ∷ 1 ∷ 1 ∷ []) ++ (5 ∷ 9 ∷ 3 ∷ 1 ∷ 2 ∷ []))
    ∷ (9 ∷ 4 ∷ []) ∷ []
    ∷ (0 ∷ 4 ∷ []) ∷ ((5 ∷ 9 ∷ 3 ∷ 1 ∷ 1 ∷ []) ++ (5 ∷ 9 ∷ 4 ∷ 1 ∷ 2 ∷ []) ++ (5 ∷ 3 ∷ 4 ∷ 2 ∷ 1 ∷ []) ++ (5 ∷ 3 ∷ 4 ∷ 1 ∷ 2 ∷ []))
    ∷ (0 ∷ 2 ∷ []) ∷ ((16 ∷ 3 ∷ 15 ∷ 1 ∷ 1 ∷ []) ++ (16 ∷ 3 ∷ 0 ∷ 1 ∷ 2 ∷ []))
    ∷ (0 ∷ 0 ∷ []) ∷ []
    ∷ (0 ∷ 0 ∷ []) ∷ [] ∷ []))
unfolding rules same_block one_block spell_lines lines_to pair_lines place_lines block_lines slot_lines twice twice_in list_panel side_number
corners_of_parents = tt

-- Of words that hold two ledgers of one table that is answered.
parents_told : (one two : List ℕ) (room : ℕ) → sound_words one ≡ true → sound_words two ≡ true → ledger_of one ≡ first → ledger_of two ≡ second
    → parents_on one two room ≡ twice_in room (twice first second)
unfolding rules parents_on same_tables
parents_told one two room a b c d = rw (a, b, c, d)

-- 17 and the side whose words are no record, the first side where both are none; then 1 where the tables differ; both before 9.
refused_sides : (good bad other : List ℕ) → sound_words good ≡ true → sound_words bad ≡ false → sound_words other ≡ true → ledger_of good ≡ nobody → ledger_of other ≡ fresh (6 ∷ 5 ∷ []) 0 1
    → T (equals (shown (parents_on bad good 0) ++ (shown (parents_on good bad 0) ++ (shown (parents_on bad bad 0) ++ shown (parents_on good other 0))))
    ((17 ∷ 1 ∷ []) ∷ [] ∷ (17 ∷ 2 ∷ []) ∷ [] ∷ (17 ∷ 1 ∷ []) ∷ [] ∷ (1 ∷ 0 ∷ []) ∷ [] ∷ []))
unfolding rules side_number same_tables spell_lines list_panel parents_on
refused_sides good bad other a b c d e = rw (a, b, c, d, e) tt
