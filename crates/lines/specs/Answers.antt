-- The line for each answer, from its number on the panel and the values beside it.
use Rattle.std.specs.Prelude.{List, [], ◌∷◌, ◌++◌, ℕ, zero, suc, eqb, length, take, get_or}
use Rattle.rulebook.specs.Tools.{whenever, choose}
use Rattle.rulebook.specs.PaperNumbers.{Panel}
use Rattle.lines.specs.Text.{decimal, hex_text, records_text}

-- A number alone, and the line's end.
unfoldable pub number_line : ℕ → List ℕ
number_line n = decimal n ++ (10 ∷ [])

-- Start's answer is its number.
unfoldable pub start_line : Panel → List ℕ
start_line p = number_line p.number

-- A refusal is its number alone; "0" is followed by what belongs to the answer.
unfoldable pub answer_line : Panel → List ℕ → List ℕ
answer_line p more = whenever (eqb p.number 0) (λ _. (48 ∷ []) ++ (more ++ (10 ∷ []))) (number_line p.number)

-- A blank and a number.
unfoldable pub spaced : ℕ → List ℕ
spaced n = (32 ∷ []) ++ decimal n

-- The value number i beside an answer's number.
abbrev pub value : Panel → ℕ → ℕ
value p i = get_or p.values i 0

-- "0 N k,s,b k,s,b ..": a step's records, out of the outbox that it left.
unfoldable pub step_line : Panel → List ℕ → List ℕ
step_line p outbox = answer_line p (spaced (value p 0) ++ records_text outbox (value p 0))

-- The first n numbers of a tray's votes.
unfoldable pub votes_to : List ℕ → ℕ → List ℕ
votes_to answers zero = []
votes_to answers (suc n) = votes_to answers n ++ spaced (get_or answers n 0)

-- " : a a a": one number a vote; nothing where there is no vote.
unfoldable pub votes_text : List ℕ → List ℕ
votes_text answers = choose (eqb (length answers) 0) [] ((32 ∷ 58 ∷ []) ++ votes_to answers (length answers))

-- "0 N k,s,b .. : a a a": the records of a tray's votes together, and the votes' numbers.
unfoldable pub tray_line : Panel → List ℕ → List ℕ → List ℕ
tray_line p outbox answers = answer_line p (spaced (value p 0) ++ (records_text outbox (value p 0) ++ votes_text answers))

-- "0 N HEX": a writer's bytes, out of the buffer that it left.
unfoldable pub packet_line : Panel → List ℕ → List ℕ
packet_line p buffer = answer_line p (spaced (value p 0) ++ ((32 ∷ []) ++ hex_text (take (value p 0) buffer)))

-- "0 KIND NODE SLOT BLOCK": the vote that a message spells.
unfoldable pub message_line : Panel → List ℕ
message_line p = answer_line p (spaced (value p 0) ++ (spaced (value p 1) ++ (spaced (value p 2) ++ spaced (value p 3))))

-- "15 MISSING".
unfoldable pub missing_line : ℕ → List ℕ
missing_line missing = decimal 15 ++ (spaced missing ++ (10 ∷ []))

-- The five values of an accepted check.
unfoldable pub five_values : Panel → List ℕ
five_values p = spaced (value p 0) ++ (spaced (value p 1) ++ (spaced (value p 2) ++ (spaced (value p 3) ++ spaced (value p 4))))

-- "0 KIND SLOT BLOCK COUNT WEIGHT", and beside 15 what is missing.
unfoldable pub check_line : Panel → ℕ → List ℕ
check_line p missing = choose (eqb p.number 15) (missing_line missing) (answer_line p (five_values p))
