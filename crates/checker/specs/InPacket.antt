-- What becomes of a certificate in a packet: alone, or as the first or second of a proof.
use Rattle.std.specs.Prelude.{◌≡◌, Bool, true, false, not, ◌&&◌, List, ℕ, length, eqb, ltb, Result, Ok, Err}
use Rattle.rulebook.specs.declared.Accepted.{Accepted}
use Rattle.rulebook.specs.declared.CertificateKind.{CertificateKind}
use Rattle.rulebook.specs.declared.CertificateKind.TheVariants as certificate
use Rattle.rulebook.specs.declared.Refusal.TheVariants as refusal
use Rattle.rulebook.specs.Tools.{whenever}
use Rattle.rulebook.specs.Weights.{stakes_fit}
use Rattle.rulebook.specs.Checker.{one_at, single_of, proof_of}
use Rattle.stakes.specs.declared.LentTable.{LentTable}
use Rattle.stakes.specs.Table.{Fit}
use Rattle.certificates.specs.Told.{told}
use Rattle.rulebook.specs.declared.Refusal.{Refusal}

-- "leftover bytes last", of a packet so long.
unfoldable pub finished : Accepted → ℕ → ℕ → Result Accepted Refusal
finished a next n = whenever (not (ltb next n)) (λ _. Ok a) (Err refusal.BadLength)

-- A packet that is to be one certificate.
unfoldable pub alone : ℕ → Result (Accepted × ℕ) Refusal → Result Accepted Refusal
alone n (Ok (a, next)) = finished a next n
alone n (Err r) = Err r

unfoldable pub is_final_kind : CertificateKind → Bool
is_final_kind certificate.FastFinal = false
is_final_kind certificate.Notar = false
is_final_kind certificate.NotarFallback = false
is_final_kind certificate.Skip = false
is_final_kind certificate.Final = true
is_final_kind certificate.Other = false

-- "the second whole, then 16 if not kind 5 of that slot; leftover bytes last".
unfoldable pub followed : Accepted → ℕ → Result (Accepted × ℕ) Refusal → Result Accepted Refusal
followed a n (Ok (f, next)) =
    whenever (is_final_kind f.kind && eqb f.slot.0 a.slot.0) (λ _. finished a next n) (Err refusal.NotAProof)
followed a n (Err r) = Err r

-- "16 if its kind is not 1 or 2".
unfoldable pub continued : List ℕ → List ℕ → CertificateKind → Accepted → ℕ → Result Accepted Refusal
continued stakes packet certificate.FastFinal a next = finished a next (length packet)
continued stakes packet certificate.Notar a next = followed a (length packet) (told stakes (one_at stakes packet next))
continued stakes packet certificate.NotarFallback a next = Err refusal.NotAProof
continued stakes packet certificate.Skip a next = Err refusal.NotAProof
continued stakes packet certificate.Final a next = Err refusal.NotAProof
continued stakes packet certificate.Other a next = Err refusal.NotAProof

-- A packet that is to be a proof.
unfoldable pub proven : List ℕ → List ℕ → Result (Accepted × ℕ) Refusal → Result Accepted Refusal
proven stakes packet (Ok (a, next)) = continued stakes packet a.kind a next
proven stakes packet (Err r) = Err r

-- A packet on stakes that fit.
unfoldable pub single_on : List ℕ → List ℕ → Result Accepted Refusal
single_on stakes packet = single_of stakes packet (one_at stakes packet 0)

unfoldable pub proven_on : List ℕ → List ℕ → Result Accepted Refusal
proven_on stakes packet = proof_of stakes packet (one_at stakes packet 0)

-- Lent stakes that fit stand where they are weighed, and the table beside them is theirs.
pub record Weighs (lent on : List ℕ) (t : LentTable) : Type 0 where
  pub fits : stakes_fit lent (length lent) ≡ true
  pub same : on ≡ lent
  pub table : Fit lent t

-- "1", where they do not fit.
pub record Unfit (lent : List ℕ) (r : Refusal) : Type 0 where
  pub fits : stakes_fit lent (length lent) ≡ false
  pub number : r ≡ refusal.BadSizes
