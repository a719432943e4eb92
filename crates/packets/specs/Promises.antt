-- What is promised of packets, over the definitions of the rule book.
use Rattle.std.specs.Prelude.{◌≡◌, Bool, true, ◌||◌, List, [], ◌∷◌, ℕ, ◌+◌, ◌^◌, ◌<◌, length, get_or, Ok}
use Rattle.rulebook.specs.declared.Accepted.{Accepted}
use Rattle.rulebook.specs.Certificates.{Certificate, Found}
use Rattle.rulebook.specs.declared.CertificateKind.{CertificateKind}
use Rattle.rulebook.specs.declared.CertificateKind.TheVariants as certificate
use Rattle.rulebook.specs.Certificates as found
use Rattle.rulebook.specs.Tools.{whenever, choose}
use Rattle.rulebook.specs.Weights.{stake_in, weight, total_to, stakes_fit, slot_ok}
use Rattle.rulebook.specs.PaperNumbers.{kind_in}
use Rattle.rulebook.specs.Ledger.{Ledger, cell_at, kept_at, is_kept, table_of}
use Rattle.rulebook.specs.Pool.{counts, signers_of, reached, place_kind, held}
use Rattle.rulebook.specs.Packets.{certificate_at, bit, count_of}
use Rattle.rulebook.specs.WellFormed.{kept_in, well_formed}
use Rattle.rulebook.specs.Checker.{signed, judge_kind, check_certificate, check_proof}
use Rattle.rulebook.specs.Writers.{certificate_for, write_certificate, write_proof}

-- ---- one spelling

-- Each element is a byte.
abbrev pub Bytes : List ℕ → Type 0
Bytes s = (i : ℕ) → get_or s i 0 < 256

-- A certificate that was read, with what is read after it.
unfoldable pub part_from : Found → (ℕ → List Certificate) → List Certificate
part_from (found.Whole c next) f = c ∷ f next
part_from found.Early f = []
part_from found.Malformed f = []

-- What a packet reads to: its first certificate, and the second where there is one.
unfoldable pub parts : List ℕ → List Certificate
parts packet = part_from (certificate_at packet 0) (λ next. part_from (certificate_at packet next) (λ _. []))

-- "Accepted": the checker of certificates takes the packet, or the checker of proofs does.
pub data AcceptedByEither (stakes packet : List ℕ) : Type 0 where
  as_certificate : (a : Accepted) → check_certificate stakes packet ≡ Ok a → AcceptedByEither stakes packet
  as_proof : (a : Accepted) → check_proof stakes packet ≡ Ok a → AcceptedByEither stakes packet

-- "No two accepted packets spell the same certificates": two that either checker accepts, and that read to the same certificates, one or
-- two, are the same bytes, whatever the tables.
abbrev pub OnePacket : Type 0
OnePacket =
    (stakes others p q : List ℕ) → Bytes p → Bytes q → AcceptedByEither stakes p → AcceptedByEither others q → parts p ≡ parts q → p ≡ q

-- ---- each node once

-- What is answered of a certificate: its kind, slot and block; as many signers, and as much weight, as either mask names; and since
-- no node is in both, as the masks name apart.
pub record Counted (stakes : List ℕ) (c : Certificate) (a : Accepted) : Type 0 where
  pub kind : a.kind ≡ kind_in (length stakes) c.kind
  pub slot : a.slot.0 ≡ c.slot
  pub block : a.block ≡ c.block
  pub signers : a.signers ≡ count_of (λ n. bit c.maska n || bit c.maskb n) (length stakes)
  pub signers_apart : a.signers ≡ count_of (bit c.maska) (length stakes) + count_of (bit c.maskb) (length stakes)
  pub weight_is : a.weight.0 ≡ weight stakes (length stakes) (λ n. bit c.maska n || bit c.maskb n)
  pub weight_apart : a.weight.0 ≡ weight stakes (length stakes) (bit c.maska) + weight stakes (length stakes) (bit c.maskb)

-- The first certificate of an accepted packet is what the answer counts.
pub record FirstCounted (stakes packet : List ℕ) (a : Accepted) : Type 0 where
  pub first : Certificate
  pub next : ℕ
  pub read : certificate_at packet 0 ≡ found.Whole first next
  pub counted : Counted stakes first a

abbrev pub CertificateCounted : Type 0
CertificateCounted = (stakes packet : List ℕ) (a : Accepted) → check_certificate stakes packet ≡ Ok a → FirstCounted stakes packet a

abbrev pub ProofCounted : Type 0
ProofCounted = (stakes packet : List ℕ) (a : Accepted) → check_proof stakes packet ≡ Ok a → FirstCounted stakes packet a

-- ---- what a writer gives

-- The ledger's table is that of lent stakes, and with it the checker accepts every kept certificate as what its place says.
pub record TableIs (l : Ledger) (stakes : List ℕ) : Type 0 where
  pub count : l.count ≡ length stakes
  pub each : (n : ℕ) → n < length stakes → stake_in l.stakes n ≡ stake_in stakes n
  pub total : l.total ≡ total_to stakes (length stakes)
  pub fits : stakes_fit stakes (length stakes) ≡ true
  pub kept : (s i : ℕ) → slot_ok s ≡ true → is_kept (kept_at l s i) ≡ true → judge_kind stakes (place_kind i) (kept_in s (kept_at l s i)) ≡ Ok tt

-- Every record that is not answered 17 has such a table: the first of its stakes.
abbrev pub TableOfRecord : Type 0
TableOfRecord = (l : Ledger) → well_formed l ≡ true → TableIs l (table_of l)

-- Whom a written certificate names: the nodes whose stored votes count, where these reach it, else those of the kept masks.
unfoldable pub signers_for : Ledger → CertificateKind → ℕ → ℕ → ℕ → Bool
signers_for l k s b = choose (reached l k s b) (λ n. counts (signers_of k b) (cell_at l s n)) (signed (certificate_for l k s b))

-- The true answer: how many they are, and their weight.
unfoldable pub accepted_for : Ledger → CertificateKind → ℕ → ℕ → Accepted
accepted_for l k s b =
    record {
      kind = k;
      slot = record { 0 = s };
      block = b;
      signers = count_of (signers_for l k s b) l.count;
      weight = record { 0 = weight l.stakes l.count (signers_for l k s b) };
    }

-- A held certificate that was written reads back to that very certificate and is accepted with its true count and weight.
abbrev pub CertificateBack : Type 0
CertificateBack =
    (l : Ledger) (stakes : List ℕ) → TableIs l stakes → (room : ℕ) (k : CertificateKind) (s b n : ℕ) → b < 2 ^ 64
    → (write_certificate l room k s b).answer ≡ Ok n
    → (parts (write_certificate l room k s b).bytes ≡ certificate_for l k s b ∷ [])
    × (check_certificate stakes (write_certificate l room k s b).bytes ≡ Ok (accepted_for l k s b))

-- The certificates of a proof, kind 1 preferred, and the kind of the first.
unfoldable pub proof_parts : Ledger → ℕ → ℕ → List Certificate
proof_parts l s b =
    whenever (held l certificate.FastFinal s b)
    (λ _. certificate_for l certificate.FastFinal s b ∷ [])
    (certificate_for l certificate.Notar s b ∷ certificate_for l certificate.Final s 0 ∷ [])

unfoldable pub proof_kind : Ledger → ℕ → ℕ → CertificateKind
proof_kind l s b = choose (held l certificate.FastFinal s b) certificate.FastFinal certificate.Notar

abbrev pub ProofBack : Type 0
ProofBack =
    (l : Ledger) (stakes : List ℕ) → TableIs l stakes → (room s b n : ℕ) → b < 2 ^ 64 → (write_proof l room s b).answer ≡ Ok n
    → (parts (write_proof l room s b).bytes ≡ proof_parts l s b)
    × (check_proof stakes (write_proof l room s b).bytes ≡ Ok (accepted_for l (proof_kind l s b) s b))
