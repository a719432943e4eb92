-- Computed cases of two lent records compared: 17 with its side, 9 with the lines needed, the lines and the words past them.
use Rattle.std.specs.Prelude.{◌≡◌, true, false, List, [], ◌∷◌, ◌++◌, ℕ, T, Err}
use Rattle.rulebook.specs.Ledger.{Ledger, fresh}
use Rattle.rulebook.specs.Scripts.{vote, stored, equals}
use Rattle.rulebook.specs.Computes.{rules}
use Rattle.record.specs.Layout.{ledger_of}
use Rattle.soundness.specs.Sound.{sound_words}
use Rattle.difference_lines.specs.Lines.{is_same, keeps, side_number, spell_lines, line_of, blocks_of, ascending, lines_over, block_lines, cell_lines, lines_to, slot_lines, vote_lines, same_tables, differences}
use Rattle.difference_lines.specs.declared.Side.TheVariants as side
use Rattle.differences.specs.declared.DifferRefusal.TheVariants as why
use Rattle.differences.specs.Lent.{Differed, refused_by, listed_in, differ, differ_panel}

-- The panel's number and value, and the lines' words.
abbrev shown : Differed → List (List ℕ)
shown d = let p = differ_panel d.answer in (p.number ∷ p.values) ∷ spell_lines d.lines ∷ []

-- Two members of a ring of two: the first stored a vote for 7, the second one for 8.
abbrev first : Ledger
first = stored (fresh (6 ∷ 4 ∷ []) 0 1) (vote 1 1 3 7 ∷ [])

abbrev second : Ledger
second = stored (fresh (6 ∷ 4 ∷ []) 1 1) (vote 1 1 3 8 ∷ [])

-- Two lines in ten words and in more, the first side's vote is 1 and the second's 2; nine words are too few, and two lines are needed. The
-- other way round the sides are exchanged.
corners_of_lent : T (equals (shown (listed_in 10 (differences first second)) ++ (shown (listed_in 99 (differences first second)) ++ (shown (listed_in 9 (differences first second)) ++ (shown (listed_in 10 (differences second first)) ++ shown (listed_in 0 (differences first first))))))
    ((0 ∷ 2 ∷ []) ∷ ((3 ∷ 1 ∷ 1 ∷ 7 ∷ 1 ∷ []) ++ (3 ∷ 1 ∷ 1 ∷ 8 ∷ 2 ∷ []))
    ∷ (0 ∷ 2 ∷ []) ∷ ((3 ∷ 1 ∷ 1 ∷ 7 ∷ 1 ∷ []) ++ (3 ∷ 1 ∷ 1 ∷ 8 ∷ 2 ∷ []))
    ∷ (9 ∷ 2 ∷ []) ∷ []
    ∷ (0 ∷ 2 ∷ []) ∷ ((3 ∷ 1 ∷ 1 ∷ 7 ∷ 2 ∷ []) ++ (3 ∷ 1 ∷ 1 ∷ 8 ∷ 1 ∷ []))
    ∷ (0 ∷ 0 ∷ []) ∷ [] ∷ []))
unfolding rules is_same keeps side_number spell_lines line_of blocks_of ascending lines_over block_lines cell_lines lines_to slot_lines vote_lines same_tables differences listed_in differ_panel
corners_of_lent = tt

-- Of words that hold two ledgers that is answered, the first words' ledger being the first side.
differ_told : (one two : List ℕ) (room : ℕ) → sound_words one ≡ true → sound_words two ≡ true → ledger_of one ≡ first → ledger_of two ≡ second
    → differ one two room ≡ listed_in room (differences first second)
unfolding rules differ
differ_told one two room a b c d = rw (a, b, c, d)

-- 17 and the side whose words are no record, the first side where both are none, before 9.
bad_side : (good bad other : List ℕ) → sound_words good ≡ true → sound_words bad ≡ false
    → T (equals (shown (differ bad good 0) ++ (shown (differ good bad 0) ++ shown (differ bad other 0))) ((17 ∷ 1 ∷ []) ∷ [] ∷ (17 ∷ 2 ∷ []) ∷ [] ∷ (17 ∷ 1 ∷ []) ∷ [] ∷ []))
unfolding rules side_number spell_lines differ differ_panel
bad_side good bad other a b = rw (a, b) tt

-- The panel of a bad record of either side by itself.
bad_panels : T (equals (shown (refused_by (Err (why.BadRecord side.First))) ++ shown (refused_by (Err (why.BadRecord side.Second)))) ((17 ∷ 1 ∷ []) ∷ [] ∷ (17 ∷ 2 ∷ []) ∷ [] ∷ []))
unfolding rules side_number spell_lines differ_panel
bad_panels = tt
