-- "When an answer is an enum, a definition gives this paper's number and values for each case of that enum. The promises use that
-- definition": what the panel shows of each public operation's answer.
use Rattle.std.specs.Prelude.{◌≡◌, true, false, not, ◌&&◌, List, [], ◌∷◌, ℕ, ◌%◌, ◌≤◌, ◌<◌, length, replicate, eqb, leb, ltb, ⊤, Result, Ok, Err}
use Rattle.rulebook.specs.declared.CertificateKind.{CertificateKind}
use Rattle.rulebook.specs.declared.CertificateKind.TheVariants as certificate
use Rattle.rulebook.specs.declared.Input.{Input}
use Rattle.rulebook.specs.declared.Input.TheVariants as input
use Rattle.rulebook.specs.declared.Refusal.{Refusal}
use Rattle.rulebook.specs.declared.Refusal.TheVariants as refusal
use Rattle.rulebook.specs.declared.Vote.{Vote}
use Rattle.rulebook.specs.declared.Accepted.{Accepted}
use Rattle.rulebook.specs.declared.Unread.{Unread}
use Rattle.rulebook.specs.Certificates.{Certificate, Found}
use Rattle.rulebook.specs.Certificates as found
use Rattle.rulebook.specs.PaperNumbers.{Panel, vote_kind, kind_in, number_in, refusal_of, verdict_number, place_number, found_panel, start_panel, step_panel, write_panel, read_panel, check_number, check_panel}
use Rattle.rulebook.specs.Weights.{slot_ok, count_fits, stakes_fit}
use Rattle.rulebook.specs.Ledger.{Ledger, table_of, cell_at, certificates_at}
use Rattle.rulebook.specs.Votes.{place_of}
use Rattle.rulebook.specs.Inputs.{refuse_if, is_other, not_in_table, misfits, verdict, feed}
use Rattle.rulebook.specs.WellFormed.{outbox_words}
use Rattle.rulebook.specs.Packets.{number_at, certificate_at, certificate_bytes, count_of}
use Rattle.rulebook.specs.Taking.{kept_verdict, take_packet}
use Rattle.rulebook.specs.Checker.{signed, signed_weight, judge, check_certificate, check_proof}
use Rattle.rulebook.specs.Writers.{certificate_for, certificate_verdict, proof_verdict, proof_bytes, Writes}
use Rattle.rulebook.specs.Messages.{message_bytes, message_verdict, read_vote, write_vote}
use Rattle.record.specs.Layout.{ledger_of}
use Rattle.soundness.specs.Sound.{sound_words}
use Rattle.starts.specs.Starting.{start_judged, StartOf, watch_judged, WatchOf}
use Rattle.node.specs.Stepping.{StepOf}
use Rattle.taking.specs.Taking.{TakeOf}
use Rattle.tray_rules.specs.Trays.{votes_in, whole_votes, serve}
use Rattle.trays.specs.Lent.{TrayOf}
use Rattle.writers.specs.Writing.{kind_on, certificate_on, proof_on}

-- "Every refusal answers zeros beside its number".
unfoldable pub beside_it : Result ⊤ Refusal → List ℕ → List ℕ
beside_it (Ok tt) values = values
beside_it (Err r) values = replicate (length values) 0

-- What the panel shows of a verdict: its number, and these values where nothing is refused.
unfoldable pub shown : Result ⊤ Refusal → List ℕ → Panel
shown v values = record { number = verdict_number v; values = beside_it v values }

-- "Order at start: 17 for the length, then 1"; no values.
abbrev pub StartShown : Type 0
StartShown =
    (ws stakes : List ℕ) (own genesis : ℕ) (a : Result ⊤ Refusal) (left : List ℕ) → StartOf ws stakes own genesis a left
    → start_panel a ≡ shown (start_judged ws stakes own genesis) []

-- A watcher's start likewise.
abbrev pub WatchShown : Type 0
WatchShown =
    (ws stakes : List ℕ) (genesis : ℕ) (a : Result ⊤ Refusal) (left : List ℕ) → WatchOf ws stakes genesis a left
    → start_panel a ≡ shown (watch_judged ws stakes genesis) []

-- 17 comes before all that is asked of a record.
unfoldable pub sound_first : List ℕ → Result ⊤ Refusal → Result ⊤ Refusal
sound_first ws v = refuse_if (not (sound_words ws)) refusal.BadRecord v

-- "Votes: 17, 9, ..", "Blocks: 17, 9, ..", "Timeouts: 17, 9, ..", "Look: 17, 9".
unfoldable pub step_judged : List ℕ → List ℕ → Input → Result ⊤ Refusal
step_judged ws out i = sound_first ws (refuse_if (ltb (length out) outbox_words) refusal.NoRoom (verdict (ledger_of ws) i))

-- A step answers the number of its records.
abbrev pub StepShown : Type 0
StepShown =
    (ws out : List ℕ) (i : Input) (a : Result ℕ Refusal) (ws' left : List ℕ) → StepOf ws out i a ws' left
    → step_panel a ≡ shown (step_judged ws out i) (length (feed (ledger_of ws) i).records ∷ [])

-- "17 and 9 are tested once at the start; 9 also when the answer buffer has fewer places than the run has whole votes"; "a part of a vote at the
-- end is 12, tested after 9".
unfoldable pub tray_judged : List ℕ → List ℕ → List ℕ → List ℕ → Result ⊤ Refusal
tray_judged ws out votes places =
    sound_first ws
    (refuse_if (not (leb outbox_words (length out) && leb (whole_votes votes) (length places))) refusal.NoRoom
    (refuse_if (not (eqb (length votes % 4) 0)) refusal.BadLength (Ok tt)))

-- A tray answers the number of records of all its votes together.
abbrev pub TrayShown : Type 0
TrayShown =
    (ws out votes places : List ℕ) (a : Result ℕ Refusal) (ws' left answers : List ℕ) → TrayOf ws out votes places a ws' left answers
    → step_panel a ≡ shown (tray_judged ws out votes places) (length (serve (ledger_of ws) (votes_in votes)).records ∷ [])

-- A vote to which none of 17, 9, 4, 3, 2, 6, 5 is due.
pub record VotePassed (ws out : List ℕ) (v : Vote) : Type 0 where
  pub sound : sound_words ws ≡ true
  pub room : outbox_words ≤ length out
  pub kind : is_other v.kind ≡ false
  pub slot : slot_ok v.slot.0 ≡ true
  pub node : v.node.0 < (ledger_of ws).count
  pub not_own : ¬ (v.node.0 ≡ (ledger_of ws).own)
  pub block : misfits v.kind v.block ≡ false

-- It is answered by what it finds at its place: 7 where "that very vote .. is already kept", 8 where "another stands in its place", else 0.
abbrev pub PlaceShown : Type 0
PlaceShown =
    (ws out : List ℕ) (v : Vote) (a : Result ℕ Refusal) (ws' left : List ℕ) → VotePassed ws out v → StepOf ws out (input.Vote v) a ws' left
    → (step_panel a).number ≡ place_number (place_of (cell_at (ledger_of ws) v.slot.0 v.node.0) v.kind v.block)

-- "Writers: 17, 9, 4, 3, 5, 18": a writer answers the number of its bytes.
abbrev pub CertificateShown : Type 0
CertificateShown =
    (ws buffer : List ℕ) (kind s b : ℕ) (a : Result ℕ Refusal) (after : List ℕ)
    → Writes (certificate_on ws (length buffer) kind s b) buffer a after
    → write_panel a
    ≡ shown (sound_first ws (certificate_verdict (ledger_of ws) (length buffer) (kind_on ws kind) s b))
    (length (certificate_bytes (certificate_for (ledger_of ws) (kind_on ws kind) s b)) ∷ [])

abbrev pub ProofShown : Type 0
ProofShown =
    (ws buffer : List ℕ) (s b : ℕ) (a : Result ℕ Refusal) (after : List ℕ) → Writes (proof_on ws (length buffer) s b) buffer a after
    → write_panel a ≡ shown (sound_first ws (proof_verdict (ledger_of ws) (length buffer) s b)) (length (proof_bytes (ledger_of ws) s b) ∷ [])

-- A node count outside 1 to 2,048 "is 1, tested first"; "The writer needs 16 bytes, or it gives 9; after that 4, 3, 2, 5". The writer of vote
-- messages answers the number of its bytes.
abbrev pub MessageShown : Type 0
MessageShown =
    (count : ℕ) (v : Vote) (buffer : List ℕ) (a : Result ℕ Refusal) (after : List ℕ) → Writes (write_vote count (length buffer) v) buffer a after
    → write_panel a ≡ shown (message_verdict count (length buffer) v) (length (message_bytes v) ∷ [])

-- The first refusal, else the later verdict.
unfoldable pub else_then : Result ⊤ Refusal → Result ⊤ Refusal → Result ⊤ Refusal
else_then (Ok tt) v = v
else_then (Err r) v = Err r

-- "per certificate 12 and 13 as met, 4, 3, 5, 14, 15", and then what is asked of the certificate and of the place after it.
unfoldable pub whole_then : List ℕ → Found → (Certificate → ℕ → Result ⊤ Refusal) → Result ⊤ Refusal
whole_then stakes (found.Whole c next) f = else_then (judge stakes c) (f c next)
whole_then stakes found.Early f = Err refusal.BadLength
whole_then stakes found.Malformed f = Err refusal.BadNumber

-- "leftover bytes last".
unfoldable pub nothing_after : List ℕ → ℕ → Result ⊤ Refusal
nothing_after packet next = refuse_if (ltb next (length packet)) refusal.BadLength (Ok tt)

-- "Checker: 1; then ..".
unfoldable pub certificate_checked : List ℕ → List ℕ → Result ⊤ Refusal
certificate_checked stakes packet =
    refuse_if (not (stakes_fit stakes (length stakes))) refusal.BadSizes
    (whole_then stakes (certificate_at packet 0) (λ c next. nothing_after packet next))

-- 7 and 8, of a certificate that was read: what it finds kept in its slot.
unfoldable pub kept_judged : Ledger → Found → Result ⊤ Refusal
kept_judged l (found.Whole c next) = kept_verdict (certificates_at l c.slot) (kind_in l.count c.kind) c.block
kept_judged l found.Early = Ok tt
kept_judged l found.Malformed = Ok tt

-- "Order: 17, 9, checker's, 7, 8": a certificate from another firm. The checker has the record's stakes, to which its 1 is never due.
unfoldable pub take_judged : List ℕ → List ℕ → List ℕ → Result ⊤ Refusal
take_judged ws out packet =
    sound_first ws
    (refuse_if (ltb (length out) outbox_words) refusal.NoRoom
    (else_then (certificate_checked (table_of (ledger_of ws)) packet) (kept_judged (ledger_of ws) (certificate_at packet 0))))

-- It is answered with the number of its records.
abbrev pub TakeShown : Type 0
TakeShown =
    (ws out packet : List ℕ) (a : Result ℕ Refusal) (ws' left : List ℕ) → TakeOf ws out packet a ws' left
    → step_panel a ≡ shown (take_judged ws out packet) (length (take_packet (ledger_of ws) packet).records ∷ [])

-- "16 if its kind is not 1 or 2": what follows a first certificate of kind 1, and of kind 2.
unfoldable pub first_then : CertificateKind → Result ⊤ Refusal → Result ⊤ Refusal → Result ⊤ Refusal
first_then certificate.FastFinal v w = v
first_then certificate.Notar v w = w
first_then certificate.NotarFallback v w = Err refusal.NotAProof
first_then certificate.Skip v w = Err refusal.NotAProof
first_then certificate.Final v w = Err refusal.NotAProof
first_then certificate.Other v w = Err refusal.NotAProof

-- "for kind 2 the second whole, then 16 if not kind 5 of that slot".
unfoldable pub second_checked : List ℕ → List ℕ → Certificate → ℕ → Result ⊤ Refusal
second_checked stakes packet c next =
    whole_then stakes (certificate_at packet next)
    (λ d end. refuse_if (not (eqb d.kind (number_in (length stakes) certificate.Final) && eqb d.slot c.slot)) refusal.NotAProof (nothing_after packet end))

-- "Proof: first certificate whole; ..".
unfoldable pub proof_checked : List ℕ → List ℕ → Result ⊤ Refusal
proof_checked stakes packet =
    refuse_if (not (stakes_fit stakes (length stakes))) refusal.BadSizes
    (whole_then stakes (certificate_at packet 0)
    (λ c next. first_then (kind_in (length stakes) c.kind) (nothing_after packet next) (second_checked stakes packet c next)))

-- "kind, slot, block, signer count and weight", as they stand in the certificate that was read and as its masks have them.
unfoldable pub told_of : List ℕ → Found → List ℕ
told_of stakes (found.Whole c next) = c.kind ∷ c.slot ∷ c.block ∷ count_of (signed c) (length stakes) ∷ signed_weight stakes c ∷ []
told_of stakes found.Early = replicate 5 0
told_of stakes found.Malformed = replicate 5 0

-- "An accepted check answers kind, slot, block, signer count and weight (for a proof: those of its first certificate). A refusal gives
-- zeros there"; where the first certificate cannot be read, the number is that of reading it, 12 or 13.
pub record ChecksAs (stakes packet : List ℕ) (v : Result ⊤ Refusal) (a : Result Accepted Refusal) : Type 0 where
  pub panel : check_panel (length stakes) a ≡ shown v (told_of stakes (certificate_at packet 0))
  pub unread : stakes_fit stakes (length stakes) ≡ true → ¬ ((found_panel (certificate_at packet 0)).number ≡ 0)
      → check_number a ≡ (found_panel (certificate_at packet 0)).number

abbrev pub CertificateCheckShown : Type 0
CertificateCheckShown =
    (stakes packet : List ℕ) (a : Result Accepted Refusal) → a ≡ check_certificate stakes packet → ChecksAs stakes packet (certificate_checked stakes packet) a

abbrev pub ProofCheckShown : Type 0
ProofCheckShown =
    (stakes packet : List ℕ) (a : Result Accepted Refusal) → a ≡ check_proof stakes packet → ChecksAs stakes packet (proof_checked stakes packet) a

-- "12 and 13 as met": what follows a number that was read, else what is made of its refusal.
unfoldable pub number_then : {A : Type 0} → Result (ℕ × ℕ) Unread → (Refusal → A) → (ℕ → ℕ → A) → A
number_then (Ok (n, next)) met f = f n next
number_then (Err e) met f = met (refusal_of e)

-- "four numbers .. namely kind, node, slot, block", each read where the one before it ends: what follows them and the place after the last.
unfoldable pub four_then : {A : Type 0} → List ℕ → (Refusal → A) → (ℕ → ℕ → ℕ → ℕ → ℕ → A) → A
four_then bytes met f =
    number_then (number_at bytes 0) met (λ kind p.
    number_then (number_at bytes p) met (λ node q.
    number_then (number_at bytes q) met (λ slot r.
    number_then (number_at bytes r) met (λ block next. f kind node slot block next))))

-- After the node count's 1, "The reader then gives 12 and 13 as met over the four numbers, then 4, 3, 2, 5, and 12 for leftovers last".
unfoldable pub read_judged : ℕ → List ℕ → Result ⊤ Refusal
read_judged count bytes =
    refuse_if (not (count_fits count)) refusal.BadSizes
    (four_then bytes Err (λ kind node slot block next.
    refuse_if (is_other (vote_kind kind)) refusal.BadKind
    (refuse_if (not (slot_ok slot)) refusal.BadSlot
    (refuse_if (not_in_table count node) refusal.BadNode
    (refuse_if (misfits (vote_kind kind) block) refusal.BadBlock (nothing_after bytes next))))))

-- The four numbers as they stand in a message; zeros where one cannot be read.
unfoldable pub four_of : List ℕ → List ℕ
four_of bytes = four_then bytes (λ _. replicate 4 0) (λ kind node slot block next. kind ∷ node ∷ slot ∷ block ∷ [])

-- The reader of vote messages answers the first of these that is due, else the message's own four numbers.
abbrev pub ReadShown : Type 0
ReadShown =
    (count : ℕ) (bytes : List ℕ) (a : Result Vote Refusal) → a ≡ read_vote count bytes → read_panel a ≡ shown (read_judged count bytes) (four_of bytes)
