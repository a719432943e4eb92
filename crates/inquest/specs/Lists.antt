-- The same tests as lists: which own votes do not stand, and which votes a firm's record lacks. A list is empty exactly where its test passes.
use Rattle.std.specs.Prelude.{◌≡◌, Bool, true, false, not, ◌&&◌, List, [], ◌∷◌, ◌++◌, ℕ, zero, suc, length, get_or}
use Rattle.rulebook.specs.declared.Cell.{Cell}
use Rattle.rulebook.specs.declared.CertificateKind.{CertificateKind}
use Rattle.rulebook.specs.Certificates.{Certificate, Found, Kept}
use Rattle.rulebook.specs.Certificates as found
use Rattle.rulebook.specs.PaperNumbers.{certificate_number, kind_in}
use Rattle.rulebook.specs.Tools.{whenever}
use Rattle.rulebook.specs.Weights.{last_slot}
use Rattle.rulebook.specs.Ledger.{Ledger, no_kept, cell_at, own_cell, certificates_at, is_kept}
use Rattle.rulebook.specs.Pool.{place_kind}
use Rattle.rulebook.specs.Packets.{certificate_at, bit}
use Rattle.rulebook.specs.Checker.{without_b}
use Rattle.rulebook.specs.WellFormed.{kept_in}
use Rattle.safety.specs.Slot.{Ballot, notar, notar_fallback, skip, skip_fallback, final}
use Rattle.safety.specs.Ballots.{has, kind_of, block_of}
use Rattle.safety.specs.Ring.{ballot_a, ballot_b}
use Rattle.inquest.specs.declared.Line.{Line}
use Rattle.inquest.specs.Stands.{none_or, notar_stands, fallback_stands, late_stands, final_stands, stands}
use Rattle.inquest.specs.Vouched.{vouched, packet_vouched}

-- Firm n's vote v in slot s, and what tells of it.
abbrev pub line_of : ℕ → ℕ → Ballot → ℕ → Line
line_of s n v source =
    record { slot = record { 0 = s }; node = record { 0 = n }; kind = kind_of v; block = block_of v; source = source }

-- The line, where the test fails.
unfoldable pub unless : Bool → Line → List Line
unless true x = []
unless false x = x ∷ []

-- Nothing is listed.
unfoldable pub is_empty : List Line → Bool
is_empty [] = true
is_empty (x ∷ xs) = false

-- The lines of f 0, f 1 .. f (n - 1), one after the other.
unfoldable pub lines_to : ℕ → (ℕ → List Line) → List Line
lines_to zero f = []
lines_to (suc n) f = lines_to n f ++ f n

-- ---- own votes that do not stand

-- The rule that casts a vote, by its number: A is 1.
abbrev pub rule_b : ℕ
rule_b = 2

abbrev pub rule_c : ℕ
rule_c = 3

abbrev pub rule_d : ℕ
rule_d = 4

abbrev pub rule_e : ℕ
rule_e = 5

-- The line of an own vote in slot s that does not stand, beside it the rule that casts it; 0 is no vote and has none.
abbrev pub notar_line : Ledger → ℕ → ℕ → List Line
notar_line l s b = unless (none_or b (λ _. notar_stands l s b)) (line_of s l.own (notar b) rule_b)

abbrev pub fallback_line : Ledger → ℕ → ℕ → List Line
fallback_line l s b = unless (none_or b (λ _. fallback_stands l s b)) (line_of s l.own (notar_fallback b) rule_d)

abbrev pub late_line : Ledger → ℕ → ℕ → List Line
late_line l s late = unless (none_or late (λ _. late_stands l s)) (line_of s l.own skip_fallback rule_e)

abbrev pub final_line : Ledger → ℕ → ℕ → List Line
final_line l s last = unless (none_or last (λ _. final_stands l s)) (line_of s l.own final rule_c)

-- The lines of a cell's votes, kinds ascending.
unfoldable pub cell_fallen : Ledger → ℕ → Cell → List Line
cell_fallen l s c =
    notar_line l s c.notar
    ++ (fallback_line l s c.fallback1
    ++ (fallback_line l s c.fallback2 ++ (fallback_line l s c.fallback3 ++ (late_line l s c.skipfallback ++ final_line l s c.finalvote))))

unfoldable pub slot_fallen : Ledger → ℕ → List Line
slot_fallen l s = cell_fallen l s (own_cell l s)

-- THE LIST OF ONE RECORD: the own votes that do not stand, slots ascending.
unfoldable pub fallen : Ledger → List Line
fallen l = lines_to last_slot (λ i. slot_fallen l (suc i))

-- ---- votes that a record lacks

-- Firm m's votes of the one cell that the other lacks, kinds ascending; a stored vote's source is 0.
unfoldable pub cell_lacks : ℕ → ℕ → Cell → Cell → List Line
cell_lacks s m c d =
    unless (none_or c.notar (λ _. has d (notar c.notar))) (line_of s m (notar c.notar) 0)
    ++ (unless (none_or c.fallback1 (λ _. has d (notar_fallback c.fallback1))) (line_of s m (notar_fallback c.fallback1) 0)
    ++ (unless (none_or c.fallback2 (λ _. has d (notar_fallback c.fallback2))) (line_of s m (notar_fallback c.fallback2) 0)
    ++ (unless (none_or c.fallback3 (λ _. has d (notar_fallback c.fallback3))) (line_of s m (notar_fallback c.fallback3) 0)
    ++ (unless (none_or c.skip (λ _. has d skip)) (line_of s m skip 0)
    ++ (unless (none_or c.skipfallback (λ _. has d skip_fallback)) (line_of s m skip_fallback 0)
    ++ unless (none_or c.finalvote (λ _. has d final)) (line_of s m final 0))))))

-- What a certificate of kind k counts firm m for and the cell lacks; its source is the certificate's kind.
unfoldable pub signer_lacks : CertificateKind → Certificate → ℕ → Cell → List Line
signer_lacks k c m d =
    unless (whenever (bit c.maska m) (λ _. has d (ballot_a k c.block)) true) (line_of c.slot m (ballot_a k c.block) (certificate_number k))
    ++ unless (whenever (not (without_b k) && bit c.maskb m) (λ _. has d (ballot_b k c.block)) true) (line_of c.slot m (ballot_b k c.block) (certificate_number k))

-- The same of what a place of slot s keeps.
unfoldable pub place_lacks : ℕ → ℕ → Cell → ℕ → Kept → List Line
place_lacks s m d j q = whenever (is_kept q) (λ _. signer_lacks (place_kind j) (kept_in s q) m d) []

-- Of all places of a slot, in their order.
unfoldable pub kept_lacks : ℕ → ℕ → Cell → List Kept → List Line
kept_lacks s m d qs = lines_to (length qs) (λ j. place_lacks s m d j (get_or qs j no_kept))

unfoldable pub slot_lacks : Ledger → Ledger → ℕ → List Line
slot_lacks l r s =
    cell_lacks s r.own (cell_at l s r.own) (own_cell r s) ++ kept_lacks s r.own (own_cell r s) (certificates_at l s)

-- THE LIST OF TWO RECORDS: slots ascending; stored votes, then certificates by place.
unfoldable pub lacking : Ledger → Ledger → List Line
lacking l r = lines_to last_slot (λ i. slot_lacks l r (suc i))

-- THE LIST OF A PACKET: what its first certificate counts the firm for, then its second.
unfoldable pub found_lacks : Ledger → Found → List Line
found_lacks r (found.Whole c next) = signer_lacks (kind_in r.count c.kind) c r.own (own_cell r c.slot)
found_lacks r found.Early = []
found_lacks r found.Malformed = []

unfoldable pub next_lacks : Ledger → List ℕ → Found → List Line
next_lacks r packet (found.Whole c next) = found_lacks r (certificate_at packet next)
next_lacks r packet found.Early = []
next_lacks r packet found.Malformed = []

unfoldable pub lacking_in : Ledger → List ℕ → List Line
lacking_in r packet = let f = certificate_at packet 0 in found_lacks r f ++ next_lacks r packet f

-- ---- the promises

-- A list is empty exactly where its test passes.
abbrev pub NothingFallen : Type 0
NothingFallen = (l : Ledger) → is_empty (fallen l) ≡ stands l

abbrev pub NothingLacking : Type 0
NothingLacking = (l r : Ledger) → is_empty (lacking l r) ≡ vouched l r

abbrev pub NothingLackingIn : Type 0
NothingLackingIn = (r : Ledger) (packet : List ℕ) → is_empty (lacking_in r packet) ≡ packet_vouched r packet
