-- "A certificate is written exactly when it is held": over a record's words and the writers' contract, for every question.
use Rattle.std.specs.Prelude.{◌≡◌, Bool, true, false, List, ℕ, ◌≤◌, length, Result, Ok, Err}
use Rattle.rulebook.specs.declared.CertificateKind.{CertificateKind}
use Rattle.rulebook.specs.declared.Refusal.{Refusal}
use Rattle.rulebook.specs.declared.Refusal.TheVariants as refusal
use Rattle.rulebook.specs.Weights.{slot_ok}
use Rattle.rulebook.specs.Ledger.{none}
use Rattle.rulebook.specs.Pool.{held}
use Rattle.rulebook.specs.Rules.{is_final}
use Rattle.rulebook.specs.Checker.{is_other_kind, block_misfits}
use Rattle.rulebook.specs.Writers.{certificate_room, proof_room, Writes}
use Rattle.record.specs.Layout.{ledger_of}
use Rattle.soundness.specs.Sound.{sound_words}
use Rattle.writers.specs.Writing.{kind_on, certificate_on, proof_on}

-- None of 17, 9, 4, 3, 5 is due to the question for a certificate.
pub record CertificateAsked (ws buffer : List ℕ) (k : CertificateKind) (s b : ℕ) : Type 0 where
  pub sound : sound_words ws ≡ true
  pub room : certificate_room (ledger_of ws).count ≤ length buffer
  pub kind : is_other_kind k ≡ false
  pub slot : slot_ok s ≡ true
  pub block : block_misfits k b ≡ false

-- None of 17, 9, 3, 5 is due to the question for a proof.
pub record ProofAsked (ws buffer : List ℕ) (s b : ℕ) : Type 0 where
  pub sound : sound_words ws ≡ true
  pub room : proof_room (ledger_of ws).count ≤ length buffer
  pub slot : slot_ok s ≡ true
  pub block : none b ≡ false

-- The answer is a number of bytes exactly when the question fits and what is asked for is there, and 18 exactly when the question fits and it
-- is not there.
pub record WrittenExactly (fits : Type 0) (there : Bool) (answer : Result ℕ Refusal) : Type 0 where
  pub written : fits → there ≡ true → (n : ℕ) × (answer ≡ Ok n)
  pub only_then : (n : ℕ) → answer ≡ Ok n → fits × (there ≡ true)
  pub missing : fits → there ≡ false → answer ≡ Err refusal.NotHeld
  pub only_missing : answer ≡ Err refusal.NotHeld → fits × (there ≡ false)

-- A certificate of a kind, by its number in the table, and of a slot and block: held by the ledger that the words mean.
abbrev pub CertificateExactly : Type 0
CertificateExactly =
    (ws buffer : List ℕ) (kind s b : ℕ) (answer : Result ℕ Refusal) (after : List ℕ)
    → Writes (certificate_on ws (length buffer) kind s b) buffer answer after
    → WrittenExactly (CertificateAsked ws buffer (kind_on ws kind) s b) (held (ledger_of ws) (kind_on ws kind) s b) answer

-- A proof of a slot and block: kind 1 is held, or kinds 2 and 5.
abbrev pub ProofExactly : Type 0
ProofExactly =
    (ws buffer : List ℕ) (s b : ℕ) (answer : Result ℕ Refusal) (after : List ℕ) → Writes (proof_on ws (length buffer) s b) buffer answer after
    → WrittenExactly (ProofAsked ws buffer s b) (is_final (ledger_of ws) s b) answer
