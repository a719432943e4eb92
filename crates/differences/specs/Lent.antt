-- What is answered about two lent records, and the lent list afterwards.
use Rattle.std.specs.Prelude.{◌≡◌, true, List, [], ◌∷◌, ℕ, suc, ◌+◌, ◌*◌, ◌≤◌, ◌<◌, length, leb, Result, Ok, Err}
use Rattle.rulebook.specs.Tools.{whenever}
use Rattle.rulebook.specs.Weights.{last_slot}
use Rattle.rulebook.specs.declared.Refusal.TheVariants as refusal
use Rattle.rulebook.specs.PaperNumbers.{Panel, refusal_number}
use Rattle.rulebook.specs.Writers.{over}
use Rattle.record.specs.Layout.{ledger_of}
use Rattle.soundness.specs.Sound.{sound_words}
use Rattle.difference_lines.specs.declared.Side.TheVariants as side
use Rattle.differences.specs.declared.DifferRefusal.{DifferRefusal}
use Rattle.differences.specs.declared.DifferRefusal.TheVariants as why
use Rattle.differences.specs.Rows.{most_lines}
use Rattle.differences.specs.Rows as rows
use Rattle.difference_lines.specs.Lines.{Line, side_number, spell_lines, same_tables, differences}

-- The answer, and the lines that stand from the list's front.
pub record Differed : Type 0 where
  pub answer : Result ℕ DifferRefusal
  pub lines : List Line

-- A refusal puts no line.
abbrev pub refused_by : Result ℕ DifferRefusal → Differed
refused_by a = record { answer = a; lines = [] }

-- "A list buffer that is too small for the whole list is 9, with the number of lines needed": a list of so many words, five a line.
unfoldable pub listed_in : ℕ → List Line → Differed
listed_in room xs =
    whenever (leb (5 * length xs) room) (λ _. record { answer = Ok (length xs); lines = xs }) (refused_by (Err (why.NoRoom (length xs))))

-- "A bad record is 17 with the side named, the first side if both are bad; 17 comes before 9."
unfoldable pub differ : List ℕ → List ℕ → ℕ → Differed
differ one two room =
    whenever (sound_words one)
    (λ _. whenever (sound_words two)
    (λ _. listed_in room (differences (ledger_of one) (ledger_of two)))
    (refused_by (Err (why.BadRecord side.Second))))
    (refused_by (Err (why.BadRecord side.First)))

-- What is answered, and all words of the list afterwards; words past the lines stay.
pub record DifferOf (one two list : List ℕ) (r : Result ℕ DifferRefusal) (left : List ℕ) : Type 0 where
  pub answered : r ≡ (differ one two (length list)).answer
  pub listed : left ≡ over (spell_lines (differ one two (length list)).lines) list

-- The number on the panel and the value beside it: how many lines, 17 with the side, 9 with how many lines are needed.
unfoldable pub differ_panel : Result ℕ DifferRefusal → Panel
differ_panel (Ok n) = record { number = 0; values = n ∷ [] }
differ_panel (Err (why.BadRecord s)) = record { number = refusal_number refusal.BadRecord; values = side_number s ∷ [] }
differ_panel (Err (why.NoRoom n)) = record { number = refusal_number refusal.NoRoom; values = n ∷ [] }

-- ---- the parts

-- Lines put into the list behind the first `at`, as far as it reaches, every other word as it was; and how many there are then.
abbrev pub Laid : List ℕ → ℕ → List Line → List ℕ → ℕ → Type 0
Laid = rows.Laid spell_lines

-- Two sound records.
pub record Sounds (one two : List ℕ) : Type 0 where
  pub first : sound_words one ≡ true
  pub second : sound_words two ≡ true

-- Two sound records of the same stake table.
pub record Alike (one two : List ℕ) : Type 0 where
  pub sounds : Sounds one two
  pub same : same_tables (ledger_of one) (ledger_of two) ≡ true

-- Likewise, a slot, and room to count the lines of its nodes behind the first `at`.
pub record InRow (one two : List ℕ) (s at : ℕ) : Type 0 where
  pub alike : Alike one two
  pub slot : s < suc last_slot
  pub within : at + 30720 ≤ most_lines

-- The whole list of lines in a lent list, or 9.
pub record ListedIn (list : List ℕ) (xs : List Line) (r : Result ℕ DifferRefusal) (left : List ℕ) : Type 0 where
  pub answered : r ≡ (listed_in (length list) xs).answer
  pub listed : left ≡ over (spell_lines (listed_in (length list) xs).lines) list
