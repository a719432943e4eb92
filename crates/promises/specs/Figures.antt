-- "No certificate is held or refused that was not before": of the stored votes; and what stands beside 15, over the contracts.
use Rattle.std.specs.Prelude.{◌≡◌, not, ◌||◌, List, ℕ, ◌+◌, ◌*◌, ◌≤◌, ◌<◌, length, eqb, leb, Result, Ok}
use Rattle.rulebook.specs.declared.CertificateKind.{CertificateKind}
use Rattle.rulebook.specs.declared.Accepted.{Accepted}
use Rattle.rulebook.specs.declared.Refusal.{Refusal}
use Rattle.rulebook.specs.Certificates.{Certificate}
use Rattle.rulebook.specs.Certificates as found
use Rattle.rulebook.specs.Tools.{choose}
use Rattle.rulebook.specs.Weights.{total_to, slot_ok}
use Rattle.rulebook.specs.PaperNumbers.{kind_in, verdict_number, check_number, check_missing}
use Rattle.rulebook.specs.Ledger.{Ledger}
use Rattle.rulebook.specs.Pool.{weigh, signers_of, fifths_of, reached, kept_as, held, missing_to}
use Rattle.rulebook.specs.Packets.{certificate_at}
use Rattle.rulebook.specs.Checker.{is_other_kind, block_misfits, bad_signers, signed_weight, judge, check_certificate, check_proof}
use Rattle.answers.specs.Face.{Checked}

-- x is the least further weight with which w would reach k fifths of t.
pub record Least (k t w x : ℕ) : Type 0 where
  pub enough : k * t ≤ 5 * (w + x)
  pub no_less : (y : ℕ) → y < x → 5 * (w + y) < k * t

-- "No certificate is held .. that was not before": the stored votes reach it exactly where five times its signers' stake is at least its
-- fifths of the total, and exactly where nothing is missing. ""Held" now means reached by stored votes or kept".
pub record ReachedAs (l : Ledger) (k : CertificateKind) (s b : ℕ) : Type 0 where
  pub as_before : reached l k s b ≡ leb (fifths_of k * l.total) (5 * weigh l s (signers_of k b))
  pub nothing_missing : reached l k s b ≡ eqb (missing_to l k s b) 0
  pub least : Least (fifths_of k) l.total (weigh l s (signers_of k b)) (missing_to l k s b)
  pub or_kept : held l k s b ≡ (eqb (missing_to l k s b) 0 || kept_as l k s b)

abbrev pub ReachedAsBefore : Type 0
ReachedAsBefore = (l : Ledger) (k : CertificateKind) (s b : ℕ) → ReachedAs l k s b

-- The number of the first test that a certificate does not pass, 0 where it passes all: 4, 3, 5, 14, and 15 by the threshold alone.
unfoldable pub first_failed : List ℕ → CertificateKind → Certificate → ℕ
first_failed stakes k c =
    let size = length stakes in
    choose (is_other_kind k) 4
    (choose (not (slot_ok c.slot)) 3
    (choose (block_misfits k c.block) 5
    (choose (bad_signers size k c) 14
    (choose (not (leb (fifths_of k * total_to stakes size) (5 * signed_weight stakes c))) 15 0))))

-- "No certificate is .. refused that was not before".
abbrev pub JudgedAsBefore : Type 0
JudgedAsBefore =
    (stakes : List ℕ) (c : Certificate) → verdict_number (judge stakes c) ≡ first_failed stakes (kind_in (length stakes) c.kind) c

-- The certificates of a packet that a check comes to: the first, and of a proof the second where the first is fine.
pub data FirstOf (packet : List ℕ) (c : Certificate) : Type 0 where
  first : (next : ℕ) → certificate_at packet 0 ≡ found.Whole c next → FirstOf packet c

pub data OneOf (stakes packet : List ℕ) (c : Certificate) : Type 0 where
  the_first : FirstOf packet c → OneOf stakes packet c
  the_second : (d : Certificate) (next end : ℕ) → certificate_at packet 0 ≡ found.Whole d next → judge stakes d ≡ Ok tt → certificate_at packet next ≡ found.Whole c end
      → OneOf stakes packet c

-- A certificate's weight is below its kind's threshold, and x is what is missing.
pub record ShortBy (stakes : List ℕ) (c : Certificate) (x : ℕ) : Type 0 where
  pub some : 1 ≤ x
  pub least : Least (fifths_of (kind_in (length stakes) c.kind)) (total_to stakes (length stakes)) (signed_weight stakes c) x

-- "Certificate checks give that figure beside refusal 15; with every other refusal it is 0", and with an acceptance; "for a proof it is that of
-- the certificate that is too light".
pub record FigureTold (stakes : List ℕ) (Judged : Certificate → Type 0) (number missing : ℕ) : Type 0 where
  pub otherwise : ¬ (number ≡ 15) → missing ≡ 0
  pub too_light : number ≡ 15 → (c : Certificate) × Judged c × ShortBy stakes c missing

-- The checkers' code, over its contract.
abbrev pub CertificateFigure : Type 0
CertificateFigure =
    (stakes packet : List ℕ) (a : Result Accepted Refusal) → a ≡ check_certificate stakes packet
    → FigureTold stakes (FirstOf packet) (check_number a) (check_missing a)

abbrev pub ProofFigure : Type 0
ProofFigure =
    (stakes packet : List ℕ) (a : Result Accepted Refusal) → a ≡ check_proof stakes packet
    → FigureTold stakes (OneOf stakes packet) (check_number a) (check_missing a)

-- qr_check_certificate, qr_check_proof.
abbrev pub FaceCertificateFigure : Type 0
FaceCertificateFigure =
    (stakes packet : List ℕ) (number : ℕ) (values : List ℕ) (missing : ℕ) → Checked (length stakes) (check_certificate stakes packet) number values missing
    → FigureTold stakes (FirstOf packet) number missing

abbrev pub FaceProofFigure : Type 0
FaceProofFigure =
    (stakes packet : List ℕ) (number : ℕ) (values : List ℕ) (missing : ℕ) → Checked (length stakes) (check_proof stakes packet) number values missing
    → FigureTold stakes (OneOf stakes packet) number missing
