-- "Tables of up to 64 nodes write and read only the old kinds; larger tables only the new, and the other family is 4": at the face.
use Rattle.std.specs.Prelude.{◌≡◌, true, List, ℕ, ◌≤◌, ◌<◌, length, get_or, Result}
use Rattle.rulebook.specs.declared.CertificateKind.{CertificateKind}
use Rattle.rulebook.specs.declared.Accepted.{Accepted}
use Rattle.rulebook.specs.declared.Refusal.{Refusal}
use Rattle.rulebook.specs.Certificates.{Certificate}
use Rattle.rulebook.specs.Certificates as found
use Rattle.rulebook.specs.Weights.{stakes_fit}
use Rattle.rulebook.specs.PaperNumbers.{certificate_kind, certificate_number, kind_in, number_in}
use Rattle.rulebook.specs.Packets.{certificate_at}
use Rattle.rulebook.specs.Writers.{certificate_room}
use Rattle.record.specs.Layout.{ledger_of}
use Rattle.soundness.specs.Sound.{sound_words}
use Rattle.writers.specs.Writing.{certificate_on}
use Rattle.answers.specs.Face.{Wrote, Checked}

-- A kind's number is of the family of a table of so many nodes.
pub record OfTable (count kind : ℕ) : Type 0 where
  pub old : count ≤ 64 → (1 ≤ kind) × (kind ≤ 5)
  pub new : 64 < count → (11 ≤ kind) × (kind ≤ 15)

-- What was accepted begins with a certificate of the table's family, whose kind is told as the packet has it.
pub record ReadOwn (stakes packet values : List ℕ) : Type 0 where
  pub first : Certificate
  pub next : ℕ
  pub read : certificate_at packet 0 ≡ found.Whole first next
  pub family : OfTable (length stakes) first.kind
  pub told : get_or values 0 0 ≡ first.kind

-- "read only": a check that answers 0.
abbrev pub ReadsOwn : (List ℕ → List ℕ → Result Accepted Refusal) → Type 0
ReadsOwn check =
    (stakes packet values : List ℕ) (missing : ℕ) → Checked (length stakes) (check stakes packet) 0 values missing → ReadOwn stakes packet values

-- "the other family is 4": once the table fits and the numbers are read.
abbrev pub RefusesOther : (List ℕ → List ℕ → Result Accepted Refusal) → Type 0
RefusesOther check =
    (stakes packet : List ℕ) (c : Certificate) (next number : ℕ) (values : List ℕ) (missing : ℕ) → stakes_fit stakes (length stakes) ≡ true
    → certificate_at packet 0 ≡ found.Whole c next → ¬ OfTable (length stakes) c.kind
    → Checked (length stakes) (check stakes packet) number values missing → number ≡ 4

-- "write only": a writer that answers 0; and 4 for the other family, once 17 and 9 are not due.
abbrev pub WritesOwn : Type 0
WritesOwn =
    (ws buffer : List ℕ) (kind s b count : ℕ) (after : List ℕ) → Wrote (certificate_on ws (length buffer) kind s b) buffer 0 count after
    → OfTable (ledger_of ws).count kind

abbrev pub AsksOther : Type 0
AsksOther =
    (ws buffer : List ℕ) (kind s b number count : ℕ) (after : List ℕ) → sound_words ws ≡ true → certificate_room (ledger_of ws).count ≤ length buffer
    → ¬ OfTable (ledger_of ws).count kind → Wrote (certificate_on ws (length buffer) kind s b) buffer number count after → number ≡ 4

-- "Stored old packets thus keep their meaning": with up to 64 nodes a number stands for the kind that document 01 gives it, and a kind is
-- written with that number.
pub record AsEver (count : ℕ) : Type 0 where
  pub kinds : (n : ℕ) → kind_in count n ≡ certificate_kind n
  pub numbers : (k : CertificateKind) → number_in count k ≡ certificate_number k

abbrev pub OldKindsStay : Type 0
OldKindsStay = (count : ℕ) → count ≤ 64 → AsEver count
