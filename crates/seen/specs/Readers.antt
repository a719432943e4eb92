-- What is read off a record between the calls of a life.
use Rattle.std.specs.Prelude.{◌≡◌, true, false, List, ℕ, ◌*◌, ◌≤◌, length}
use Rattle.rulebook.specs.Tools.{part}
use Rattle.rulebook.specs.Weights.{slot_ok}
use Rattle.rulebook.specs.Ledger.{row_at, cell_at, is_armed}
use Rattle.rulebook.specs.Inputs.{not_in_table}
use Rattle.rulebook.specs.Writers.{over}
use Rattle.readers.specs.Asked.{final_on, armed_on, votes_on, cell_values, blocks_kept, blocks_on, kept_values, marks_kept, marks_on, mark_values, head_kept, head_on, head_values}
use Rattle.readers.specs.Weighed.{weights_kept, weights_on, weight_values}
use Rattle.kept_lines.specs.Told.{certificates_told}
use Rattle.kept_lines.specs.Lent.{spell_all, certificates_on}
use Rattle.answers.specs.Face.{FinalRead, ArmedRead, VotesRead, BlocksRead, MarksRead, HeadRead, WeightsRead, CertificatesRead}
use Rattle.seen.specs.Seen.{Seen, ledger_in, Alive}

-- Of the slots 1 to 16 and the nodes of the table each reader answers 0, and what the ledger has that the words mean.
pub record ReadsTold (v : Seen) : Type 0 where
  pub final : (s number block : ℕ) → FinalRead (final_on v.words s) number block → slot_ok s ≡ true → (number ≡ 0) × (block ≡ (row_at (ledger_in v) s).final)
  pub armed : (s number flag : ℕ) → ArmedRead (armed_on v.words s) number flag → slot_ok s ≡ true → (number ≡ 0) × (flag ≡ part (is_armed (ledger_in v) s) 1)
  pub votes : (s n number : ℕ) (values : List ℕ) → VotesRead (votes_on v.words s n) number values → slot_ok s ≡ true → not_in_table (ledger_in v).count n ≡ false
      → (number ≡ 0) × (values ≡ cell_values (cell_at (ledger_in v) s n))
  pub blocks : (s number : ℕ) (values : List ℕ) → BlocksRead (blocks_on v.words s) number values → slot_ok s ≡ true
      → (number ≡ 0) × (values ≡ kept_values (blocks_kept v.words s))
  pub marks : (s number : ℕ) (values : List ℕ) → MarksRead (marks_on v.words s) number values → slot_ok s ≡ true
      → (number ≡ 0) × (values ≡ mark_values (marks_kept v.words s))
  pub head : (number : ℕ) (values : List ℕ) → HeadRead (head_on v.words) number values → (number ≡ 0) × (values ≡ head_values (head_kept v.words))
  pub weights : (s b number : ℕ) (values : List ℕ) → WeightsRead (weights_on v.words s b) number values → slot_ok s ≡ true → ¬ (b ≡ 0)
      → (number ≡ 0) × (values ≡ weight_values (weights_kept v.words s b))
  pub certificates : (s : ℕ) (list : List ℕ) (number beside : ℕ) (left : List ℕ) → CertificatesRead (certificates_on v.words s (length list)) list number beside left → slot_ok s ≡ true
      → 5 * length (certificates_told (ledger_in v) s) ≤ length list
      → (number ≡ 0) × (beside ≡ length (certificates_told (ledger_in v) s)) × (left ≡ over (spell_all (ledger_in v).count (certificates_told (ledger_in v) s)) list)

-- At any moment of a node's life, or a watcher's.
abbrev pub ReadersTell : Type 0
ReadersTell = (stakes : List ℕ) (genesis : ℕ) (v : Seen) → Alive stakes genesis v → ReadsTold v
