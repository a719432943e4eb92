-- One spelling: an accepted packet is the spelling of the certificates that it reads to.
use mathlib.Core.Path.{◌≡◌, sym, ap, ◌∙◌}
use mathlib.Core.List.{List, [], ◌∷◌, ◌++◌, append-nil}
use Prim.Native.Nat.{ℕ}
use native.Mathlib.Nat.{le_refl}
use lib.ListN.{length, drop}
use lib.Seq.{drop-length}
use Rattle.rulebook.specs.declared.Accepted.{Accepted}
use Rattle.rulebook.specs.Certificates.{Certificate}
use Rattle.rulebook.specs.Certificates as found
use Rattle.rulebook.specs.Packets.{certificate_at, certificate_bytes}
use Rattle.rule_laws.proofs.NumberLaws.{certificate_read, certificate_whole}
use Rattle.rule_laws.proofs.AcceptedLaws.{Proven, one, two, accepted_single, accepted_proof, past_end}
use Rattle.packets.specs.Promises.{Bytes, part_from, parts, AcceptedByEither, as_certificate, as_proof, OnePacket}

-- Certificates, one after the other.
spelled : List Certificate → List ℕ
spelled [] = []
spelled (c ∷ cs) = certificate_bytes c ++ spelled cs

-- A packet of one certificate, and one of two.
pub parts_one : (packet : List ℕ) (c : Certificate) → certificate_at packet 0 ≡ found.Whole c (length packet) → parts packet ≡ c ∷ []
unfolding parts part_from
parts_one packet c e = rw e (rw (past_end packet (length packet) (le_refl (length packet))))

pub parts_two : (packet : List ℕ) (c d : Certificate) (n m : ℕ) → certificate_at packet 0 ≡ found.Whole c n → certificate_at packet n ≡ found.Whole d m
    → parts packet ≡ c ∷ d ∷ []
unfolding parts part_from
parts_two packet c d n m e f = rw e (rw f)

one_spelled : (packet : List ℕ) (c : Certificate) → Bytes packet → certificate_at packet 0 ≡ found.Whole c (length packet) → packet ≡ spelled (parts packet)
unfolding spelled
one_spelled packet c h e = certificate_whole packet c h e ∙ sym (ap spelled (parts_one packet c e) ∙ append-nil (certificate_bytes c))

two_spelled : (packet : List ℕ) (c d : Certificate) (n : ℕ) → Bytes packet → certificate_at packet 0 ≡ found.Whole c n
    → certificate_at packet n ≡ found.Whole d (length packet) → packet ≡ spelled (parts packet)
unfolding spelled
two_spelled packet c d n h e f =
    let rest : drop n packet ≡ certificate_bytes d ++ [] =
    (certificate_read packet n d (length packet) f).spelled h ∙ ap (λ (x : List ℕ). certificate_bytes d ++ x) (drop-length packet) in
    (certificate_read packet 0 c n e).spelled h ∙ ap (λ (x : List ℕ). certificate_bytes c ++ x) rest
    ∙ sym (ap spelled (parts_two packet c d n (length packet) e f))

proven_spelled : (stakes packet : List ℕ) (a : Accepted) → Bytes packet → Proven stakes packet a → packet ≡ spelled (parts packet)
proven_spelled stakes packet a h (one c e j k q) = one_spelled packet c h e
proven_spelled stakes packet a h (two c d n e j k f i l t q) = two_spelled packet c d n h e f

-- Whichever checker accepts a packet, it is that spelling.
either_spelled : (stakes packet : List ℕ) → Bytes packet → AcceptedByEither stakes packet → packet ≡ spelled (parts packet)
either_spelled stakes packet h (as_certificate a e) =
    let x = accepted_single stakes packet a e in one_spelled packet x.first h x.read
either_spelled stakes packet h (as_proof a e) = proven_spelled stakes packet a h (accepted_proof stakes packet a e)

pub one_packet : OnePacket
one_packet stakes others p q hp hq ep eq same =
    either_spelled stakes p hp ep ∙ ap spelled same ∙ sym (either_spelled others q hq eq)
