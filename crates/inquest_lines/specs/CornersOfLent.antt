-- Computed cases of a lent list: a line's five words, room for two lines and not quite, and the number and value of each answer.
use Rattle.std.specs.Prelude.{List, [], ◌∷◌, ◌++◌, ℕ, T, Err}
use Rattle.rulebook.specs.declared.Refusal.TheVariants as refusal
use Rattle.rulebook.specs.Scripts.{equals}
use Rattle.rulebook.specs.Computes.{rules}
use Rattle.difference_lines.specs.declared.Side.TheVariants as side
use Rattle.difference_lines.specs.Lines.{side_number}
use Rattle.safety.specs.Slot.{notar, final}
use Rattle.inquest.specs.declared.Line.{Line}
use Rattle.inquest.specs.Lists.{line_of}
use Rattle.inquest_lines.specs.declared.ListRefusal.TheVariants as why
use Rattle.inquest_lines.specs.Lent.{spell_lines, Told, refused_by, listed_in, list_panel}

-- The panel's number and value, and the lines' words.
abbrev shown : Told → List (List ℕ)
shown t = let p = list_panel t.answer in (p.number ∷ p.values) ∷ t.words ∷ []

abbrev two : List Line
two = line_of 3 2 (notar 7) 4 ∷ line_of 16 5 final 3 ∷ []

corners_of_lent : T (equals (shown (listed_in 10 two) ++ (shown (listed_in 9 two) ++ (shown (listed_in 0 []) ++ (shown (refused_by (Err (why.BadRecord side.First))) ++ (shown (refused_by (Err (why.BadRecord side.Second))) ++ shown (refused_by (Err (why.Refused refusal.BadLength))))))))
    ((0 ∷ 2 ∷ []) ∷ ((3 ∷ 2 ∷ 1 ∷ 7 ∷ 4 ∷ []) ++ (16 ∷ 5 ∷ 5 ∷ 0 ∷ 3 ∷ []))
    ∷ (9 ∷ 2 ∷ []) ∷ []
    ∷ (0 ∷ 0 ∷ []) ∷ []
    ∷ (17 ∷ 1 ∷ []) ∷ []
    ∷ (17 ∷ 2 ∷ []) ∷ []
    ∷ (12 ∷ 0 ∷ []) ∷ [] ∷ []))
unfolding rules side_number spell_lines listed_in list_panel
corners_of_lent = tt
