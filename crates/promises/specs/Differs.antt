-- Which votes differ, on the operation's contract and at the face: its number and the value beside it, and what is left in the list.
use Rattle.std.specs.Prelude.{◌≡◌, true, false, List, [], ◌∷◌, ℕ, ◌*◌, ◌≤◌, ◌<◌, length, Result}
use Rattle.rulebook.specs.declared.Vote.{Vote}
use Rattle.rulebook.specs.PaperNumbers.{Panel}
use Rattle.rulebook.specs.Writers.{over}
use Rattle.record.specs.Layout.{ledger_of}
use Rattle.soundness.specs.Sound.{sound_words}
use Rattle.differences.specs.declared.DifferRefusal.{DifferRefusal}
use Rattle.difference_lines.specs.Lines.{Line, stores, spell_lines, same_tables, differences}
use Rattle.differences.specs.Lent.{DifferOf, differ_panel}
use Rattle.answers.specs.Face.{Compared}

-- A number with one value beside it.
abbrev pub shown_as : ℕ → ℕ → Panel
shown_as number value = record { number = number; values = value ∷ [] }

-- The lines of the ledgers that two records hold.
abbrev pub lines_of : List ℕ → List ℕ → List Line
lines_of one two = differences (ledger_of one) (ledger_of two)

-- "A bad record is 17 with the side named, the first side if both are bad; 17 comes before 9. A list buffer that is too small for the whole
-- list is 9, with the number of lines needed." A refusal leaves the list as found; else the lines stand at its front, words past them stay.
pub record Told (one two list : List ℕ) (p : Panel) (left : List ℕ) : Type 0 where
  pub first : sound_words one ≡ false → (p ≡ shown_as 17 1) × (left ≡ list)
  pub second : sound_words one ≡ true → sound_words two ≡ false → (p ≡ shown_as 17 2) × (left ≡ list)
  pub cramped : sound_words one ≡ true → sound_words two ≡ true → length list < 5 * length (lines_of one two)
      → (p ≡ shown_as 9 (length (lines_of one two))) × (left ≡ list)
  pub whole : sound_words one ≡ true → sound_words two ≡ true → 5 * length (lines_of one two) ≤ length list
      → (p ≡ shown_as 0 (length (lines_of one two))) × (left ≡ over (spell_lines (lines_of one two)) list)

-- On the contract.
abbrev pub DifferShown : Type 0
DifferShown = (one two list : List ℕ) (r : Result ℕ DifferRefusal) (left : List ℕ) → DifferOf one two list r left → Told one two list (differ_panel r) left

-- qr_differ.
abbrev pub FaceDiffer : Type 0
FaceDiffer =
    (one two list : List ℕ) (number beside : ℕ) (left : List ℕ) → Compared one two list number beside left → Told one two list (shown_as number beside) left

-- qr_differ: a number that is not 0 leaves the list as found.
abbrev pub FaceDifferRefused : Type 0
FaceDifferRefused =
    (one two list : List ℕ) (number beside : ℕ) (left : List ℕ) → Compared one two list number beside left → ¬ (number ≡ 0) → left ≡ list

-- "No line means equal stored votes, and only then."
pub record FaceEqual : Type 0 where
  pub means : (one two list : List ℕ) (left : List ℕ) → Compared one two list 0 0 left → (v : Vote) → stores (ledger_of one) v ≡ stores (ledger_of two) v
  pub only : (one two list : List ℕ) (number beside : ℕ) (left : List ℕ) → sound_words one ≡ true → sound_words two ≡ true
      → same_tables (ledger_of one) (ledger_of two) ≡ true → ((v : Vote) → stores (ledger_of one) v ≡ stores (ledger_of two) v)
      → Compared one two list number beside left → (number ≡ 0) × (beside ≡ 0) × (left ≡ list)
