-- WHAT WAS ACCEPTED, as sets: votes, blocks and certificates that were answered 0, singly or in a tray. In which order they came is not asked.
use Rattle.std.specs.Prelude.{Bool, false, ◌&&◌, ◌||◌, List, [], ◌∷◌, ℕ, eqb}
use Rattle.rulebook.specs.declared.CertificateKind.{CertificateKind}
use Rattle.rulebook.specs.Certificates.{Found, Whole, Early, Malformed, Kept}
use Rattle.rulebook.specs.PaperNumbers.{kind_in}
use Rattle.rulebook.specs.Packets.{certificate_at}
use Rattle.rulebook.specs.Ledger.{Ledger, certificates_at}
use Rattle.rulebook.specs.Pool.{place_kind, same_kind, some_kept}
use Rattle.rulebook.specs.Taking.{Arrival, of_input, of_packet, kept_of, served}
use Rattle.watchers.specs.Watching.{is_done}

-- One of the arrivals passes the test and is answered 0.
unfoldable pub some_accepted : (Arrival → Bool) → Ledger → List Arrival → Bool
some_accepted p l [] = false
some_accepted p l (c ∷ cs) = (is_done (served l c).answer && p c) || some_accepted p (served l c).ledger cs

-- ---- certificates

-- Two certificates are for one block, with the same signers.
unfoldable pub same_kept : Kept → Kept → Bool
same_kept p q = eqb p.block q.block && (eqb p.maska q.maska && eqb p.maskb q.maskb)

-- Place i is for kind k, and keeps q's block and signers.
unfoldable pub is_kept_as : CertificateKind → Kept → ℕ → Kept → Bool
is_kept_as k q i p = same_kind (place_kind i) k && same_kept p q

-- Slot s keeps a certificate of kind k with q's block and signers, in whichever place.
unfoldable pub keeps_certificate : Ledger → CertificateKind → ℕ → Kept → Bool
keeps_certificate l k s q = some_kept (is_kept_as k q) 0 (certificates_at l s)

-- What was read is a certificate of kind k for slot s with q's block and signers, as a table of n nodes numbers kinds.
unfoldable pub spells : ℕ → Found → CertificateKind → ℕ → Kept → Bool
spells n (Whole c next) k s q = same_kind (kind_in n c.kind) k && (eqb c.slot s && same_kept (kept_of c) q)
spells n Early k s q = false
spells n Malformed k s q = false

-- What arrives is a packet that begins with it.
unfoldable pub hands : ℕ → Arrival → CertificateKind → ℕ → Kept → Bool
hands n (of_input i) k s q = false
hands n (of_packet bytes) k s q = spells n (certificate_at bytes 0) k s q
