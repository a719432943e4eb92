-- "A refusal leaves the node, the outbox and every lent buffer unchanged": for each public operation and each function of the face. What is
-- lent without `mut` (start's stakes, a writer's record, a checker's stakes and packet) no operation can change: for the two checkers there is
-- nothing else.
use Rattle.std.specs.Prelude.{◌≡◌, List, [], ◌∷◌, ℕ, length, Result, Err}
use Rattle.rulebook.specs.declared.Input.{Input}
use Rattle.rulebook.specs.declared.Refusal.{Refusal}
use Rattle.rulebook.specs.declared.Vote.{Vote}
use Rattle.rulebook.specs.declared.Accepted.{Accepted}
use Rattle.rulebook.specs.Writers.{Writes}
use Rattle.rulebook.specs.Messages.{write_vote}
use Rattle.starts.specs.Starting.{StartOf, WatchOf}
use Rattle.node.specs.Stepping.{StepOf}
use Rattle.taking.specs.Taking.{TakeOf}
use Rattle.trays.specs.Lent.{TrayOf}
use Rattle.writers.specs.Writing.{certificate_on, proof_on}
use Rattle.answers.specs.Face.{Started, Watched, Stepped, Taken, Trayed, Wrote, MessageRead, Checked}

-- ---- the public operations

-- A refused start leaves the record as found.
abbrev pub StartRefused : Type 0
StartRefused =
    (ws stakes : List ℕ) (own genesis : ℕ) (r : Refusal) (left : List ℕ) → StartOf ws stakes own genesis (Err r) left → left ≡ ws

-- A refused start of a watcher likewise.
abbrev pub WatchRefused : Type 0
WatchRefused =
    (ws stakes : List ℕ) (genesis : ℕ) (r : Refusal) (left : List ℕ) → WatchOf ws stakes genesis (Err r) left → left ≡ ws

-- A refused vote, block, timeout or look leaves the record and the outbox as found.
abbrev pub StepRefused : Type 0
StepRefused =
    (ws out : List ℕ) (i : Input) (r : Refusal) (ws' left : List ℕ) → StepOf ws out i (Err r) ws' left → (ws' ≡ ws) × (left ≡ out)

-- A refused certificate from another firm leaves the record and the outbox as found.
abbrev pub TakeRefused : Type 0
TakeRefused =
    (ws out packet : List ℕ) (r : Refusal) (ws' left : List ℕ) → TakeOf ws out packet (Err r) ws' left → (ws' ≡ ws) × (left ≡ out)

-- A refused tray leaves the record, the outbox and the answer buffer as found.
abbrev pub TrayRefused : Type 0
TrayRefused =
    (ws out votes places : List ℕ) (r : Refusal) (ws' left answers : List ℕ) → TrayOf ws out votes places (Err r) ws' left answers
    → (ws' ≡ ws) × (left ≡ out) × (answers ≡ places)

-- A refused certificate leaves the buffer as found.
abbrev pub CertificateRefused : Type 0
CertificateRefused =
    (ws buffer : List ℕ) (kind s b : ℕ) (r : Refusal) (after : List ℕ)
    → Writes (certificate_on ws (length buffer) kind s b) buffer (Err r) after → after ≡ buffer

-- A refused proof likewise.
abbrev pub ProofRefused : Type 0
ProofRefused =
    (ws buffer : List ℕ) (s b : ℕ) (r : Refusal) (after : List ℕ)
    → Writes (proof_on ws (length buffer) s b) buffer (Err r) after → after ≡ buffer

-- A refused vote message likewise; the reader of messages is lent nothing that it could change.
abbrev pub MessageRefused : Type 0
MessageRefused =
    (count : ℕ) (v : Vote) (buffer : List ℕ) (r : Refusal) (after : List ℕ)
    → Writes (write_vote count (length buffer) v) buffer (Err r) after → after ≡ buffer

-- ---- the face: a number that is not 0, and zeros in the places lent for the values beside it

-- qr_start.
abbrev pub FaceStartRefused : Type 0
FaceStartRefused =
    (ws stakes : List ℕ) (own genesis number : ℕ) (left : List ℕ) → Started ws stakes own genesis number left → ¬ (number ≡ 0) → left ≡ ws

-- qr_watch.
abbrev pub FaceWatchRefused : Type 0
FaceWatchRefused =
    (ws stakes : List ℕ) (genesis number : ℕ) (left : List ℕ) → Watched ws stakes genesis number left → ¬ (number ≡ 0) → left ≡ ws

-- qr_vote, qr_block, qr_timeout, qr_look: 0 records made.
abbrev pub FaceStepRefused : Type 0
FaceStepRefused =
    (ws out : List ℕ) (i : Input) (number made : ℕ) (ws' left : List ℕ) → Stepped ws out i number made ws' left → ¬ (number ≡ 0)
    → (made ≡ 0) × (ws' ≡ ws) × (left ≡ out)

-- qr_take: 0 records made.
abbrev pub FaceTakeRefused : Type 0
FaceTakeRefused =
    (ws out packet : List ℕ) (number made : ℕ) (ws' left : List ℕ) → Taken ws out packet number made ws' left → ¬ (number ≡ 0)
    → (ws' ≡ ws) × (left ≡ out) × (made ≡ 0)

-- qr_tray: 0 records made.
abbrev pub FaceTrayRefused : Type 0
FaceTrayRefused =
    (ws out votes places : List ℕ) (number made : ℕ) (ws' left answers : List ℕ) → Trayed ws out votes places number made ws' left answers → ¬ (number ≡ 0)
    → (made ≡ 0) × (answers ≡ places) × (ws' ≡ ws) × (left ≡ out)

-- qr_write_certificate: 0 bytes written.
abbrev pub FaceCertificateRefused : Type 0
FaceCertificateRefused =
    (ws buffer : List ℕ) (kind s b number written : ℕ) (after : List ℕ)
    → Wrote (certificate_on ws (length buffer) kind s b) buffer number written after → ¬ (number ≡ 0) → (written ≡ 0) × (after ≡ buffer)

-- qr_write_proof: 0 bytes written.
abbrev pub FaceProofRefused : Type 0
FaceProofRefused =
    (ws buffer : List ℕ) (s b number written : ℕ) (after : List ℕ) → Wrote (proof_on ws (length buffer) s b) buffer number written after
    → ¬ (number ≡ 0) → (written ≡ 0) × (after ≡ buffer)

-- qr_write_vote: 0 bytes written.
abbrev pub FaceMessageRefused : Type 0
FaceMessageRefused =
    (count : ℕ) (v : Vote) (buffer : List ℕ) (number written : ℕ) (after : List ℕ) → Wrote (write_vote count (length buffer) v) buffer number written after
    → ¬ (number ≡ 0) → (written ≡ 0) × (after ≡ buffer)

-- qr_read_vote: four zeros.
abbrev pub FaceReadRefused : Type 0
FaceReadRefused =
    (answer : Result Vote Refusal) (number : ℕ) (values : List ℕ) → MessageRead answer number values → ¬ (number ≡ 0) → values ≡ 0 ∷ 0 ∷ 0 ∷ 0 ∷ []

-- qr_check_certificate, qr_check_proof: five zeros.
abbrev pub FaceCheckRefused : Type 0
FaceCheckRefused =
    (count : ℕ) (answer : Result Accepted Refusal) (number : ℕ) (values : List ℕ) (missing : ℕ) → Checked count answer number values missing → ¬ (number ≡ 0)
    → values ≡ 0 ∷ 0 ∷ 0 ∷ 0 ∷ 0 ∷ []
