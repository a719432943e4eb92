-- What is told of one command: the lines of a manual that begin with its word, each with the indented lines under it.
use Rattle.std.specs.Prelude.{Bool, true, false, ◌&&◌, List, [], ◌∷◌, ◌++◌, ℕ, eqb, leb, ltb, length, get_or, take}
use Rattle.rulebook.specs.Tools.{choose, whenever}
use Rattle.commands.specs.Commands.{same_text}
use Rattle.lines.specs.Text.{decimal}
use Rattle.texts.specs.Texts.{refusal_text}
use Rattle.help.specs.Manual.{lines_of, told, packets, shown, asked, compared}

-- A text begins with a word, and a blank or the line's end stands behind it.
unfoldable pub named : List ℕ → List ℕ → Bool
named w rest = ltb (length w) (length rest) && (same_text (take (length w) rest) w && leb (get_or rest (length w) 0) 32)

-- The first byte of what is left of a text is told, by whether a line begins there and whether the byte before it is told: an indented
-- line goes with the line above it, any other is told where it begins with the word.
unfoldable pub opens : List ℕ → List ℕ → Bool → Bool → Bool
opens w rest fresh on = whenever fresh (λ _. choose (eqb (get_or rest 0 0) 32) on (named w rest)) on

-- What is told of the rest of a text.
unfoldable pub topic_from : List ℕ → List ℕ → Bool → Bool → List ℕ
topic_from w [] fresh on = []
topic_from w (b ∷ bs) fresh on = choose (opens w (b ∷ bs) fresh on) (b ∷ []) [] ++ topic_from w bs (eqb b 10) (opens w (b ∷ bs) fresh on)

-- What a text tells of a word.
unfoldable pub topic_in : List ℕ → List ℕ → List ℕ
topic_in w text = topic_from w text true false

-- What the manual tells of a word, group by group.
unfoldable pub topic_of : List ℕ → List ℕ
topic_of w = topic_in w (lines_of told) ++ (topic_in w (lines_of packets) ++ (topic_in w (lines_of shown) ++ (topic_in w (lines_of asked) ++ topic_in w (lines_of compared))))

-- The answer to "help COMMAND": "?" where the manual tells nothing of the word.
unfoldable pub topic_line : List ℕ → List ℕ
topic_line w = choose (eqb (length (topic_of w)) 0) (63 ∷ 10 ∷ []) (topic_of w)

-- "NUMBER: " before a refusal's text; nothing where the number is none.
unfoldable pub numbered : ℕ → List ℕ
numbered n = choose (ltb 18 n) [] (decimal n ++ (58 ∷ 32 ∷ []))

-- The answer to "why NUMBER": the number and its text; of a number that is none, the text alone.
unfoldable pub why_line : ℕ → List ℕ
why_line n = numbered n ++ (refusal_text n ++ (10 ∷ []))
