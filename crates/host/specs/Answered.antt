-- What a public operation answered, in the words that the promises have for the face: its number, and whatever value stands beside it.
use Rattle.std.specs.Prelude.{List, ℕ, ⊤, Result}
use Rattle.rulebook.specs.PaperNumbers.{Panel, write_panel, check_number, check_values, check_missing}
use Rattle.rulebook.specs.Writers as written
use Rattle.differences.specs.declared.DifferRefusal.{DifferRefusal}
use Rattle.differences.specs.Lent.{differ_panel}
use Rattle.inquest_lines.specs.declared.ListRefusal.{ListRefusal}
use Rattle.inquest_lines.specs.Lent.{Told, list_panel}
use Rattle.kept_lines.specs.Lent.{Listing}
use Rattle.pieces.specs.Pieces.{piece_panel}
use Rattle.pieces.specs.State.{nodes}
use Rattle.answers.specs.Face.{Beside, Wrote, Read, ReadOne, Checked, Compared, LinesRead, CertificatesRead, Pieced, Ended}
use Rattle.rulebook.specs.declared.Accepted.{Accepted}
use Rattle.rulebook.specs.declared.Refusal.{Refusal}

-- A writer.
abbrev pub WroteWith : written.Wrote → (buffer : List ℕ) → Result ℕ Refusal → (after : List ℕ) → Type 0
WroteWith w buffer r after = (count : ℕ) → Beside count (write_panel r).values → Wrote w buffer (write_panel r).number count after

-- A check, under a table of so many nodes.
abbrev pub CheckedWith : ℕ → (given r : Result Accepted Refusal) → Type 0
CheckedWith count given r = Checked count given (check_number r) (check_values count r) (check_missing r)

-- A question that is answered on a panel, with its values or its one value.
abbrev pub ReadWith : {X : Type 0} (panel : Result X Refusal → Panel) (given r : Result X Refusal) → Type 0
ReadWith panel given r = Read panel given (panel r).number (panel r).values

abbrev pub ReadOneWith : {X : Type 0} (panel : Result X Refusal → Panel) (given r : Result X Refusal) → Type 0
ReadOneWith panel given r = (value : ℕ) → Beside value (panel r).values → ReadOne panel given (panel r).number value

-- A slot's kept certificates.
abbrev pub CertificatesWith : (told : Listing) (list : List ℕ) → Result ℕ ListRefusal → (left : List ℕ) → Type 0
CertificatesWith told list r left = (beside : ℕ) → Beside beside (list_panel r).values → CertificatesRead told list (list_panel r).number beside left

-- Two records compared.
abbrev pub ComparedWith : (one two list : List ℕ) → Result ℕ DifferRefusal → (left : List ℕ) → Type 0
ComparedWith one two list r left = (beside : ℕ) → Beside beside (differ_panel r).values → Compared one two list (differ_panel r).number beside left

-- A list of the inquest.
abbrev pub LinesWith : (told : Told) (list : List ℕ) → Result ℕ ListRefusal → (left : List ℕ) → Type 0
LinesWith told list r left = (beside : ℕ) → Beside beside (list_panel r).values → LinesRead told list (list_panel r).number beside left

-- A piece of a proof, and the end of one.
abbrev pub PiecedWith : (ws bs stakes bytes : List ℕ) → Result ⊤ Refusal → (ws' bs' : List ℕ) → Type 0
PiecedWith ws bs stakes bytes r ws' bs' = Pieced ws bs stakes bytes (piece_panel r).number ws' bs'

abbrev pub EndedWith : (ws bs : List ℕ) → Result Accepted Refusal → (ws' bs' : List ℕ) → Type 0
EndedWith ws bs r ws' bs' = Ended ws bs (check_number r) (check_values (nodes ws) r) (check_missing r) ws' bs'
