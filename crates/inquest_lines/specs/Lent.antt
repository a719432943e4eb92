-- What a question of the inquest is answered, and the lent list afterwards.
use Rattle.std.specs.Prelude.{◌≡◌, List, [], ◌∷◌, ◌++◌, ℕ, ◌*◌, length, leb, Result, Ok, Err}
use Rattle.rulebook.specs.declared.Refusal.TheVariants as refusal
use Rattle.rulebook.specs.Tools.{whenever}
use Rattle.rulebook.specs.PaperNumbers.{Panel, refusal_number, vote_number}
use Rattle.rulebook.specs.Writers.{over}
use Rattle.difference_lines.specs.Lines.{side_number}
use Rattle.differences.specs.Rows.{OnList, Puts}
use Rattle.differences.specs.Rows as rows
use Rattle.inquest.specs.declared.Line.{Line}
use Rattle.inquest_lines.specs.declared.ListRefusal.{ListRefusal}
use Rattle.inquest_lines.specs.declared.ListRefusal.TheVariants as why

-- A line's five words: slot, node, kind, block, and what tells of the vote.
abbrev pub spell_line : Line → List ℕ
spell_line x = x.slot.0 ∷ x.node.0 ∷ vote_number x.kind ∷ x.block ∷ x.source ∷ []

unfoldable pub spell_lines : List Line → List ℕ
spell_lines [] = []
spell_lines (x ∷ xs) = spell_line x ++ spell_lines xs

-- The answer, and the words of the lines that stand from the list's front.
pub record Told : Type 0 where
  pub answer : Result ℕ ListRefusal
  pub words : List ℕ

-- A refusal puts no line.
abbrev pub refused_by : Result ℕ ListRefusal → Told
refused_by a = record { answer = a; words = [] }

-- A list of so many words that is too small for all n lines, five words each, is 9, with the number of lines needed.
abbrev pub put_in : ℕ → ℕ → List ℕ → Told
put_in room n ws = whenever (leb (5 * n) room) (λ _. record { answer = Ok n; words = ws }) (refused_by (Err (why.NoRoom n)))

unfoldable pub listed_in : ℕ → List Line → Told
listed_in room xs = put_in room (length xs) (spell_lines xs)

-- What is answered, and all words of the list afterwards; words past the lines stay.
pub record ToldIn (list : List ℕ) (t : Told) (r : Result ℕ ListRefusal) (left : List ℕ) : Type 0 where
  pub answered : r ≡ t.answer
  pub listed : left ≡ over t.words list

-- The number on the panel and the value beside it: how many lines, 17 with the side, 9 with how many lines are needed; 0 beside another refusal.
unfoldable pub list_panel : Result ℕ ListRefusal → Panel
list_panel (Ok n) = record { number = 0; values = n ∷ [] }
list_panel (Err (why.BadRecord s)) = record { number = refusal_number refusal.BadRecord; values = side_number s ∷ [] }
list_panel (Err (why.Refused r)) = record { number = refusal_number r; values = 0 ∷ [] }
list_panel (Err (why.NoRoom n)) = record { number = refusal_number refusal.NoRoom; values = n ∷ [] }

-- What puts lines lists all of them, or none where they have no room, whichever they are.
abbrev pub ListsLines : {F : Type 0} → OnList F → F → List ℕ → Result ℕ ListRefusal → List ℕ → Type 0
ListsLines g put list r left = (n : ℕ) (ws : List ℕ) → length ws ≡ 5 * n → Puts g put n ws → ToldIn list (put_in (length list) n ws) r left

-- Lines put into the list behind the first `at`, as far as it reaches, every other word as it was; and how many there are then.
abbrev pub Laid : List ℕ → ℕ → List Line → List ℕ → ℕ → Type 0
Laid = rows.Laid spell_lines

-- No question has more lines than this: seven stored votes and 13 certificates with two masks, in each of sixteen slots.
abbrev pub most_lines : ℕ
most_lines = 528
