-- "before it the answer is "more"": the line that answers a piece.
use Rattle.std.specs.Prelude.{List, [], ◌∷◌, ℕ, eqb}
use Rattle.rulebook.specs.Tools.{choose}
use Rattle.lines.specs.Answers.{number_line}

-- "more", letter by letter, and the line's end.
abbrev pub more_text : List ℕ
more_text = 109 ∷ 111 ∷ 114 ∷ 101 ∷ 10 ∷ []

unfoldable pub piece_line : ℕ → List ℕ
piece_line n = choose (eqb n 0) more_text (number_line n)
