-- Which own votes do not stand, on the operation's contract and at the face: its number and the value beside it, and what is left in the list.
use Rattle.std.specs.Prelude.{◌≡◌, true, false, List, ℕ, ◌*◌, ◌≤◌, ◌<◌, length, Result}
use Rattle.rulebook.specs.PaperNumbers.{Panel}
use Rattle.rulebook.specs.Writers.{over}
use Rattle.record.specs.Layout.{ledger_of}
use Rattle.soundness.specs.Sound.{sound_words}
use Rattle.inquest.specs.declared.Line.{Line}
use Rattle.inquest.specs.Stands.{stands}
use Rattle.inquest.specs.Lists.{fallen}
use Rattle.inquest_lines.specs.declared.ListRefusal.{ListRefusal}
use Rattle.inquest_lines.specs.Lent.{spell_lines, list_panel}
use Rattle.standing.specs.Asked.{stands_on, StandsOf}
use Rattle.answers.specs.Face.{LinesRead}
use Rattle.promises.specs.Differs.{shown_as}

-- The lines of the ledger that a record holds.
abbrev pub fallen_in : List ℕ → List Line
fallen_in ws = fallen (ledger_of ws)

-- A bad record is 17, before 9. A list that is too small for all lines is 9, with the number of lines needed. A refusal leaves the list as found; else the
-- lines stand at its front, words past them stay.
pub record Told (ws list : List ℕ) (p : Panel) (left : List ℕ) : Type 0 where
  pub bad : sound_words ws ≡ false → (p ≡ shown_as 17 0) × (left ≡ list)
  pub cramped : sound_words ws ≡ true → length list < 5 * length (fallen_in ws) → (p ≡ shown_as 9 (length (fallen_in ws))) × (left ≡ list)
  pub whole : sound_words ws ≡ true → 5 * length (fallen_in ws) ≤ length list
      → (p ≡ shown_as 0 (length (fallen_in ws))) × (left ≡ over (spell_lines (fallen_in ws)) list)

-- On the contract.
abbrev pub StandsShown : Type 0
StandsShown = (ws list : List ℕ) (r : Result ℕ ListRefusal) (left : List ℕ) → StandsOf ws list r left → Told ws list (list_panel r) left

-- qr_stands.
abbrev pub FaceStands : Type 0
FaceStands =
    (ws list : List ℕ) (number beside : ℕ) (left : List ℕ) → LinesRead (stands_on ws (length list)) list number beside left → Told ws list (shown_as number beside) left

-- qr_stands: a number that is not 0 leaves the list as found.
abbrev pub FaceStandsRefused : Type 0
FaceStandsRefused =
    (ws list : List ℕ) (number beside : ℕ) (left : List ℕ) → LinesRead (stands_on ws (length list)) list number beside left → ¬ (number ≡ 0) → left ≡ list

-- No line means that every own vote stands, and only then.
pub record FaceAllStand : Type 0 where
  pub means : (ws list : List ℕ) (left : List ℕ) → LinesRead (stands_on ws (length list)) list 0 0 left → stands (ledger_of ws) ≡ true
  pub only : (ws list : List ℕ) (number beside : ℕ) (left : List ℕ) → sound_words ws ≡ true → stands (ledger_of ws) ≡ true
      → LinesRead (stands_on ws (length list)) list number beside left → (number ≡ 0) × (beside ≡ 0) × (left ≡ list)
