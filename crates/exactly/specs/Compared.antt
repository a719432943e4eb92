-- qr_differ AND STAKE TABLES: the one line of other tables, and no line, each exactly where it is due.
use Rattle.std.specs.Prelude.{◌≡◌, true, List, [], ◌∷◌, ℕ, ◌≤◌, length, take}
use Rattle.rulebook.specs.declared.Vote.{Vote}
use Rattle.rulebook.specs.Writers.{over}
use Rattle.record.specs.Layout.{ledger_of}
use Rattle.soundness.specs.Sound.{sound_words}
use Rattle.difference_lines.specs.Lines.{stores}
use Rattle.answers.specs.Face.{Compared}
use Rattle.exactly.specs.Tables.{OneTable}

-- The "one line saying so": five words of 0.
abbrev pub tables_words : List ℕ
tables_words = 0 ∷ 0 ∷ 0 ∷ 0 ∷ 0 ∷ []

-- qr_differ, "Different stake tables, own numbers aside, give one line saying so and nothing else": of two records that 17 does not refuse and
-- a list with room for a line. Other tables are told so; and one line that begins with that line's words is told of other tables alone.
pub record FaceTables : Type 0 where
  pub told : (one two list : List ℕ) (number beside : ℕ) (left : List ℕ) → sound_words one ≡ true → sound_words two ≡ true → 5 ≤ length list
      → ¬ (OneTable (ledger_of one) (ledger_of two)) → Compared one two list number beside left
      → (number ≡ 0) × (beside ≡ 1) × (left ≡ over tables_words list)
  pub only : (one two list : List ℕ) (left : List ℕ) → Compared one two list 0 1 left → take 5 left ≡ tables_words
      → ¬ (OneTable (ledger_of one) (ledger_of two))

-- qr_differ, "No line means equal stored votes, and only then": 0 with no line exactly where the records have one table and store the same.
pub record FaceNone : Type 0 where
  pub means : (one two list : List ℕ) (left : List ℕ) → Compared one two list 0 0 left
      → OneTable (ledger_of one) (ledger_of two) × ((v : Vote) → stores (ledger_of one) v ≡ stores (ledger_of two) v)
  pub only : (one two list : List ℕ) (number beside : ℕ) (left : List ℕ) → sound_words one ≡ true → sound_words two ≡ true
      → OneTable (ledger_of one) (ledger_of two) → ((v : Vote) → stores (ledger_of one) v ≡ stores (ledger_of two) v)
      → Compared one two list number beside left → (number ≡ 0) × (beside ≡ 0) × (left ≡ list)
