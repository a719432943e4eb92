-- Certificates from other firms: a packet that the checker accepts is kept, and the rules run. And what arrives at a node, of either sort.
use Rattle.std.specs.Prelude.{Bool, false, not, ◌&&◌, ◌||◌, List, [], ◌∷◌, ℕ, suc, length, eqb, ltb, ⊤, Result, Ok, Err}
use Rattle.rulebook.specs.declared.CertificateKind.{CertificateKind}
use Rattle.rulebook.specs.declared.Input.{Input}
use Rattle.rulebook.specs.declared.Refusal.TheVariants as refusal
use Rattle.rulebook.specs.Tools.{whenever, choose}
use Rattle.rulebook.specs.Certificates.{Certificate, Kept}
use Rattle.rulebook.specs.PaperNumbers.{kind_in}
use Rattle.rulebook.specs.Ledger.{Ledger, table_of, certificates_at, is_kept, put_certificates}
use Rattle.rulebook.specs.Pool.{place_kind, same_kind, some_kept}
use Rattle.rulebook.specs.Rules.{state_of}
use Rattle.rulebook.specs.Run.{run}
use Rattle.rulebook.specs.Inputs.{refuse_if, Fed, fed_with, refused_with, feed}
use Rattle.rulebook.specs.Checker.{One, good, bad, one_at}
use Rattle.rulebook.specs.declared.Refusal.{Refusal}

-- Place i keeps nothing and is for kind k.
abbrev pub is_room : CertificateKind → ℕ → Kept → Bool
is_room k i q = same_kind (place_kind i) k && not (is_kept q)

-- Some place, from place i on, keeps nothing and is for kind k.
unfoldable pub has_room : CertificateKind → ℕ → List Kept → Bool
has_room k i [] = false
has_room k i (q ∷ qs) = is_room k i q || has_room k (suc i) qs

-- A certificate in the first free place for its kind.
unfoldable pub fill_kept : CertificateKind → ℕ → Kept → List Kept → List Kept
fill_kept k i p [] = []
fill_kept k i p (q ∷ qs) = choose (is_room k i q) (p ∷ qs) (q ∷ fill_kept k (suc i) p qs)

-- Place i is for kind k and keeps block b.
unfoldable pub is_repeat : CertificateKind → ℕ → ℕ → Kept → Bool
is_repeat k b i q = same_kind (place_kind i) k && eqb q.block b

-- "7 is for a repeat of kind, slot and block; 8 for another block in a taken place or a tenth."
unfoldable pub kept_verdict : List Kept → CertificateKind → ℕ → Result ⊤ Refusal
kept_verdict qs k b =
    refuse_if (some_kept (is_repeat k b) 0 qs) refusal.AlreadyKept (refuse_if (not (has_room k 0 qs)) refusal.OtherStands (Ok tt))

-- What is kept of a certificate.
abbrev pub kept_of : Certificate → Kept
kept_of c = record { block = c.block; maska = c.maska; maskb = c.maskb }

-- A certificate is kept in the first free place for its kind in its slot.
unfoldable pub keep_certificate : Ledger → Certificate → Ledger
keep_certificate l c = put_certificates l c.slot (fill_kept (kind_in l.count c.kind) 0 (kept_of c) (certificates_at l c.slot))

unfoldable pub taken_on : Result ⊤ Refusal → Ledger → Certificate → Fed
taken_on (Ok tt) l c = fed_with (run (state_of (keep_certificate l c) []))
taken_on (Err r) l c = refused_with l r

-- What the node does with a certificate that the checker accepts: "Rules then run."
unfoldable pub taken : Ledger → Certificate → Fed
taken l c = taken_on (kept_verdict (certificates_at l c.slot) (kind_in l.count c.kind) c.block) l c

-- "leftover bytes last" of the checker's refusals, and before 7 and 8.
unfoldable pub taken_from : Ledger → List ℕ → One → Fed
taken_from l packet (good c next) = whenever (not (ltb next (length packet))) (λ _. taken l c) (refused_with l refusal.BadLength)
taken_from l packet (bad r) = refused_with l r

-- "Take a certificate packet into the pool after a full check, with the checker's refusals."
unfoldable pub take_packet : Ledger → List ℕ → Fed
take_packet l packet = taken_from l packet (one_at (table_of l) packet 0)

-- ---- what arrives, of either sort

-- An input, or a certificate packet.
pub data Arrival : Type 0 where
  of_input : Input → Arrival
  of_packet : List ℕ → Arrival

-- What the node does with it, once its record and its outbox are found right.
unfoldable pub served : Ledger → Arrival → Fed
served l (of_input i) = feed l i
served l (of_packet bytes) = take_packet l bytes
