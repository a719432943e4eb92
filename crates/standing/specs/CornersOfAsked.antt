-- Computed cases of own votes that do not stand: their lines with the rule beside each, 9 with the lines needed, and 17.
use Rattle.std.specs.Prelude.{◌≡◌, true, false, List, [], ◌∷◌, ◌++◌, ℕ, T}
use Rattle.rulebook.specs.Ledger.{Ledger, fresh}
use Rattle.rulebook.specs.Scripts.{cell, with_votes, equals}
use Rattle.rulebook.specs.Computes.{rules}
use Rattle.record.specs.Layout.{ledger_of}
use Rattle.soundness.specs.Sound.{sound_words}
use Rattle.inquest.specs.Stands.{none_or, lets_notar, notar_stands, fallback_stands, late_stands, final_stands}
use Rattle.inquest.specs.Lists.{unless, lines_to, cell_fallen, slot_fallen, fallen}
use Rattle.inquest.specs.Examples.{bare_final}
use Rattle.inquest_lines.specs.Lent.{spell_lines, Told, listed_in, list_panel}
use Rattle.standing.specs.Asked.{stands_on}

-- The panel's number and value, and the lines' words.
abbrev shown : Told → List (List ℕ)
shown t = let p = list_panel t.answer in (p.number ∷ p.values) ∷ t.words ∷ []

-- Node 3 of five with own votes of every kind but skip in slot 16, and nothing else.
abbrev baseless : Ledger
baseless = with_votes (fresh (1 ∷ 1 ∷ 1 ∷ 1 ∷ 1 ∷ []) 3 1) 16 3 (cell 7 0 8 9 10 1 1)

-- A notar vote without its block falls by rule B, a final vote without kind 2 by C: two lines in ten words and in more; nine words are too
-- few, and two lines are needed. All six votes fall, kinds ascending, each with its rule. A skip stands on nothing, and no vote is no line.
corners_of_asked : T (equals (shown (listed_in 10 (fallen bare_final)) ++ (shown (listed_in 99 (fallen bare_final)) ++ (shown (listed_in 9 (fallen bare_final)) ++ (shown (listed_in 30 (fallen baseless)) ++ shown (listed_in 0 (fallen (with_votes (fresh (1 ∷ 1 ∷ []) 1 1) 1 1 (cell 0 1 0 0 0 0 0))))))))
    ((0 ∷ 2 ∷ []) ∷ ((1 ∷ 0 ∷ 1 ∷ 7 ∷ 2 ∷ []) ++ (1 ∷ 0 ∷ 5 ∷ 0 ∷ 3 ∷ []))
    ∷ (0 ∷ 2 ∷ []) ∷ ((1 ∷ 0 ∷ 1 ∷ 7 ∷ 2 ∷ []) ++ (1 ∷ 0 ∷ 5 ∷ 0 ∷ 3 ∷ []))
    ∷ (9 ∷ 2 ∷ []) ∷ []
    ∷ (0 ∷ 6 ∷ []) ∷ ((16 ∷ 3 ∷ 1 ∷ 7 ∷ 2 ∷ []) ++ ((16 ∷ 3 ∷ 2 ∷ 8 ∷ 4 ∷ []) ++ ((16 ∷ 3 ∷ 2 ∷ 9 ∷ 4 ∷ []) ++ ((16 ∷ 3 ∷ 2 ∷ 10 ∷ 4 ∷ []) ++ ((16 ∷ 3 ∷ 4 ∷ 0 ∷ 5 ∷ []) ++ (16 ∷ 3 ∷ 5 ∷ 0 ∷ 3 ∷ []))))))
    ∷ (0 ∷ 0 ∷ []) ∷ [] ∷ []))
unfolding rules none_or lets_notar notar_stands fallback_stands late_stands final_stands unless lines_to cell_fallen slot_fallen fallen spell_lines listed_in list_panel
corners_of_asked = tt

-- Of words that hold a ledger that is answered.
stands_told : (ws : List ℕ) (room : ℕ) → sound_words ws ≡ true → ledger_of ws ≡ bare_final → stands_on ws room ≡ listed_in room (fallen bare_final)
unfolding rules stands_on
stands_told ws room a b = rw (a, b)

-- 17 before 9.
bad_words : (ws : List ℕ) → sound_words ws ≡ false → T (equals (shown (stands_on ws 0)) ((17 ∷ 0 ∷ []) ∷ [] ∷ []))
unfolding rules spell_lines stands_on list_panel
bad_words ws a = rw a tt
