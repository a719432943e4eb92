-- THE WRITERS OF THE FACE: 0 exactly where what is asked for is there, and what was written reads back.
use Rattle.std.specs.Prelude.{◌≡◌, Bool, true, false, List, [], ◌∷◌, ℕ, ◌^◌, ◌<◌, length, take, Result}
use Rattle.rulebook.specs.declared.Accepted.{Accepted}
use Rattle.rulebook.specs.declared.Vote.{Vote}
use Rattle.rulebook.specs.declared.Refusal.{Refusal}
use Rattle.rulebook.specs.Certificates.{Certificate}
use Rattle.rulebook.specs.Ledger.{Ledger, table_of}
use Rattle.rulebook.specs.Pool.{held}
use Rattle.rulebook.specs.Rules.{is_final}
use Rattle.rulebook.specs.Checker.{check_certificate, check_proof}
use Rattle.rulebook.specs.Messages.{read_vote, write_vote}
use Rattle.rulebook.specs.Writers.{certificate_for}
use Rattle.packets.specs.Promises.{parts, accepted_for, proof_parts, proof_kind}
use Rattle.messages.specs.Promises.{Bytes}
use Rattle.record.specs.Layout.{ledger_of}
use Rattle.writers.specs.Writing.{kind_on, certificate_on, proof_on}
use Rattle.answers.specs.Face.{Wrote, Checked, MessageRead, vote_values, accepted_values}
use Rattle.promises.specs.Exactly.{CertificateAsked, ProofAsked}

-- ---- "A certificate is written exactly when it is held."

-- The number is 0 exactly where the question fits and what is asked for is there, and 18 exactly where the question fits and it is not there.
pub record NumberedExactly (fits : Type 0) (there : Bool) (number : ℕ) : Type 0 where
  pub written : fits → there ≡ true → number ≡ 0
  pub only_then : number ≡ 0 → fits × (there ≡ true)
  pub missing : fits → there ≡ false → number ≡ 18
  pub only_missing : number ≡ 18 → fits × (there ≡ false)

-- qr_write_certificate: the record holds the certificate of that kind, slot and block.
abbrev pub FaceCertificateExactly : Type 0
FaceCertificateExactly =
    (ws buffer : List ℕ) (kind s b number count : ℕ) (after : List ℕ) → Wrote (certificate_on ws (length buffer) kind s b) buffer number count after
    → NumberedExactly (CertificateAsked ws buffer (kind_on ws kind) s b) (held (ledger_of ws) (kind_on ws kind) s b) number

-- qr_write_proof: the block is final by certificates, kind 1 or kinds 2 and 5.
abbrev pub FaceProofExactly : Type 0
FaceProofExactly =
    (ws buffer : List ℕ) (s b number count : ℕ) (after : List ℕ) → Wrote (proof_on ws (length buffer) s b) buffer number count after
    → NumberedExactly (ProofAsked ws buffer s b) (is_final (ledger_of ws) s b) number

-- ---- and reads back

-- A packet is these certificates with their signers, and a check of it with the record's stakes answers 0 with the true values, signer count and
-- weight among them.
pub record FaceBack (l : Ledger) (packet : List ℕ) (check : Result Accepted Refusal) (certificates : List Certificate) (told : Accepted) : Type 0 where
  pub spelled : parts packet ≡ certificates
  pub checked : (number : ℕ) (values : List ℕ) (missing : ℕ) → Checked (length (table_of l)) check number values missing
      → (number ≡ 0) × (values ≡ accepted_values (length (table_of l)) told) × (missing ≡ 0)

-- The bytes that qr_write_certificate counted, handed to qr_check_certificate.
abbrev pub FaceCertificateBack : Type 0
FaceCertificateBack =
    (ws buffer : List ℕ) (kind s b count : ℕ) (after : List ℕ) → b < 2 ^ 64 → Wrote (certificate_on ws (length buffer) kind s b) buffer 0 count after
    → FaceBack (ledger_of ws) (take count after) (check_certificate (table_of (ledger_of ws)) (take count after))
    (certificate_for (ledger_of ws) (kind_on ws kind) s b ∷ []) (accepted_for (ledger_of ws) (kind_on ws kind) s b)

-- The bytes that qr_write_proof counted, handed to qr_check_proof.
abbrev pub FaceProofBack : Type 0
FaceProofBack =
    (ws buffer : List ℕ) (s b count : ℕ) (after : List ℕ) → b < 2 ^ 64 → Wrote (proof_on ws (length buffer) s b) buffer 0 count after
    → FaceBack (ledger_of ws) (take count after) (check_proof (table_of (ledger_of ws)) (take count after))
    (proof_parts (ledger_of ws) s b) (accepted_for (ledger_of ws) (proof_kind (ledger_of ws) s b) s b)

-- ---- vote messages

-- "Reading what was written gives the vote back": the bytes that qr_write_vote counted, handed to qr_read_vote, with whatever else in the buffer.
abbrev pub FaceVoteBack : Type 0
FaceVoteBack =
    (nodes : ℕ) (v : Vote) (buffer : List ℕ) (count : ℕ) (after : List ℕ) (number : ℕ) (values : List ℕ) → v.block < 2 ^ 64
    → Wrote (write_vote nodes (length buffer) v) buffer 0 count after → MessageRead (read_vote nodes (take count after)) number values
    → (number ≡ 0) × (values ≡ vote_values v)

-- "no vote has two accepted spellings": two messages that qr_read_vote answered with 0 and the same four numbers are the same bytes.
abbrev pub FaceOneSpelling : Type 0
FaceOneSpelling =
    (nodes others : ℕ) (p q values : List ℕ) → Bytes p → Bytes q → MessageRead (read_vote nodes p) 0 values → MessageRead (read_vote others q) 0 values → p ≡ q
