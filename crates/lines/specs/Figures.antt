-- What the list of votes and the board show of a vote, a weight, and what is missing.
use Rattle.std.specs.Prelude.{List, [], ◌∷◌, ◌++◌, ℕ, eqb}
use Rattle.rulebook.specs.Tools.{choose}
use Rattle.lines.specs.Text.{decimal}
use Rattle.lines.specs.Answers.{spaced}

-- "SLOT NODE KIND BLOCK": a stored vote.
unfoldable pub vote_text : ℕ → ℕ → ℕ → ℕ → List ℕ
vote_text s n k b = decimal s ++ (spaced n ++ (spaced k ++ spaced b))

-- " WEIGHT (PERCENT%)".
unfoldable pub share_text : ℕ → ℕ → List ℕ
share_text weight percent = spaced weight ++ (((32 ∷ 40 ∷ []) ++ decimal percent) ++ (37 ∷ 41 ∷ []))

-- " more for ", letter by letter.
abbrev pub more_for : List ℕ
more_for = 32 ∷ 109 ∷ 111 ∷ 114 ∷ 101 ∷ 32 ∷ 102 ∷ 111 ∷ 114 ∷ 32 ∷ []

-- ", MISSING more for NAME"; nothing where nothing is missing.
unfoldable pub missing_text : ℕ → List ℕ → List ℕ
missing_text missing name = choose (eqb missing 0) [] (((44 ∷ 32 ∷ []) ++ decimal missing) ++ (more_for ++ name))
