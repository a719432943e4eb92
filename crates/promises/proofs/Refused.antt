-- A refusal leaves all lent memory as found. Assumes nothing.
use Rattle.std.specs.Prelude.{⊤, Result, Ok, Err}
use mathlib.Core.Path.{◌≡◌, refl, sym, ap, ◌∙◌}
use mathlib.Core.Bool.{true, false, ◌&&◌}
use mathlib.Core.List.{List, [], ◌∷◌, ◌++◌}
use Prim.Native.Nat.{ℕ, ◌*◌, ◌%◌}
use lib.ListN.{length, drop}
use lib.Dec.{eqb, leb}
use Rattle.rulebook.specs.declared.Input.{Input}
use Rattle.rulebook.specs.declared.Refusal.{Refusal}
use Rattle.rulebook.specs.declared.Refusal.TheVariants as refusal
use Rattle.rulebook.specs.Ledger.{Ledger}
use Rattle.rulebook.specs.PaperNumbers.{start_panel, step_panel, write_panel, read_panel, check_number, check_values}
use Rattle.rulebook.specs.Inputs.{Fed, verdict, fed_with, refused_with, fed_on, feed}
use Rattle.rulebook.specs.WellFormed.{well_formed, outbox_words, step, take_certificate}
use Rattle.rulebook.specs.Writers.{Wrote, wrote_on, write_certificate, write_proof, certificate_verdict, proof_verdict, proof_bytes, certificate_for, over, Writes}
use Rattle.rulebook.specs.Packets.{certificate_bytes}
use Rattle.rulebook.specs.Messages.{message_bytes, message_verdict, write_vote}
use Rattle.rule_laws.proofs.ToolLaws.{given_on, given_off, given_keeps, by_test}
use Rattle.rule_laws.proofs.RuleLaws as rules
use Rattle.rule_laws.proofs.PanelLaws.{refused_told, zeros_told}
use Rattle.record.specs.Layout.{ledger_of}
use Rattle.record.specs.Spelling.{words_of, is_spelled}
use Rattle.record.proofs.Spelled.{spelled_words}
use Rattle.soundness.specs.Sound.{sound_words}
use Rattle.starts.specs.Starting.{start_judged, start_answer, start_left, watch_judged}
use Rattle.node.specs.Stepping.{Leaves, spelled, as_found, as_fed, step_leaves}
use Rattle.taking.specs.Taking.{take_leaves}
use Rattle.tray_rules.specs.Trays.{votes_in, whole_votes, Served, serve, Tray, tray_refused, tray_served, tray}
use Rattle.trays.specs.Lent as trays
use Rattle.trays.specs.Lent.{as_served, tray_leaves}
use Rattle.writers.specs.Writing.{unsound, kind_on, certificate_on, proof_on}
use Rattle.answers.specs.Face as face
use Rattle.promises.specs.Refusals.{StartRefused, WatchRefused, StepRefused, TakeRefused, TrayRefused, CertificateRefused, ProofRefused, MessageRefused, FaceStartRefused, FaceWatchRefused, FaceStepRefused, FaceTakeRefused, FaceTrayRefused, FaceCertificateRefused, FaceProofRefused, FaceMessageRefused, FaceReadRefused, FaceCheckRefused}

-- ---- start

left_found : (v : Result ⊤ Refusal) (ws stakes : List ℕ) (own genesis : ℕ) (r : Refusal) → start_answer v ≡ Err r → start_left v ws stakes own genesis ≡ ws
unfolding start_answer start_left
left_found (Ok tt) ws stakes own genesis r e = absurd cc
left_found (Err x) ws stakes own genesis r e = refl

pub start_refused : StartRefused
start_refused ws stakes own genesis r left h =
    h.words ∙ left_found (start_judged ws stakes own genesis) ws stakes own genesis r (sym h.answered)

pub watch_refused : WatchRefused
watch_refused ws stakes genesis r left h =
    h.words ∙ left_found (watch_judged ws stakes genesis) ws stakes (length stakes) genesis r (sym h.answered)

-- ---- step

-- A refusal keeps the ledger and makes no record.
abbrev pub Kept : Ledger → Fed → Type 0
Kept l f = (r : Refusal) → f.answer ≡ Err r → (f.ledger ≡ l) × (f.records ≡ [])

refused_kept : (l : Ledger) (x : Refusal) → Kept l (refused_with l x)
unfolding refused_with
refused_kept l x r e = (refl, refl)

pub fed_kept : (l : Ledger) (i : Input) (v : Result ⊤ Refusal) → Kept l (fed_on v l i)
unfolding fed_on fed_with
fed_kept l i (Ok tt) r e = absurd cc
fed_kept l i (Err x) r e = refused_kept l x r e

step_kept : (l : Ledger) (room : ℕ) (i : Input) → Kept l (step l room i)
unfolding step feed
step_kept l room i =
    given_keeps (Kept l) (well_formed l) _ _ (refused_kept l refusal.BadRecord)
    (λ _. given_keeps (Kept l) (leb outbox_words room) _ _ (refused_kept l refusal.NoRoom) (λ _. fed_kept l i (verdict l i)))

-- No records leave the outbox as it was.
nothing_told : (rs : List _) (out : List ℕ) → rs ≡ [] → spelled rs ++ drop (3 * length rs) out ≡ out
unfolding spelled
nothing_told rs out e = rw e

-- A refusal on words: those that spell no ledger stay, and so do those of a ledger that is kept.
leaves_found : (ws out : List ℕ) (f : Fed) (a : Leaves) (r : Refusal) → (is_spelled ws ≡ true → a ≡ as_fed f out)
    → (is_spelled ws ≡ false → a ≡ as_found refusal.BadRecord ws out) → Kept (ledger_of ws) f → Err r ≡ a.answer → (a.words ≡ ws) × (a.outbox ≡ out)
leaves_found ws out f a r fed found kept e =
    by_test (is_spelled ws)
    (λ t.
    let k = kept r (ap (λ (x : Leaves). x.answer) (sym (fed t)) ∙ sym e) in (
      ap (λ (x : Leaves). x.words) (fed t) ∙ ap words_of k.0 ∙ spelled_words ws t,
      ap (λ (x : Leaves). x.outbox) (fed t) ∙ nothing_told f.records out k.1,
    ))
    (λ t. (ap (λ (x : Leaves). x.words) (found t), ap (λ (x : Leaves). x.outbox) (found t)))

pub step_refused : StepRefused
unfolding step_leaves
step_refused ws out i r ws' left h =
    let k = leaves_found ws out (step (ledger_of ws) (length out) i) (step_leaves ws out i) r (λ t. given_on _ _ _ t) (λ t. given_off _ _ _ t)
    (step_kept (ledger_of ws) (length out) i) h.answered in
    (h.words ∙ k.0, h.outbox ∙ k.1)

take_kept : (l : Ledger) (room : ℕ) (packet : List ℕ) → Kept l (take_certificate l room packet)
take_kept l room packet r e = let k = rules.take_refused l room packet r e in (k.ledger, k.records)

pub take_refused : TakeRefused
unfolding take_leaves
take_refused ws out packet r ws' left h =
    let k = leaves_found ws out (take_certificate (ledger_of ws) (length out) packet) (take_leaves ws out packet) r (λ t. given_on _ _ _ t) (λ t. given_off _ _ _ t)
    (take_kept (ledger_of ws) (length out) packet) h.answered in
    (h.words ∙ k.0, h.outbox ∙ k.1)

-- ---- the tray

-- A refused tray keeps the ledger, makes no record and answers no vote.
abbrev TrayKept : Ledger → Tray → Type 0
TrayKept l t = (r : Refusal) → t.answer ≡ Err r → t ≡ tray_refused l r

tray_refusal : (l : Ledger) (x : Refusal) → TrayKept l (tray_refused l x)
unfolding tray_refused
tray_refusal l x r e = let q : x ≡ r = cc in ap (tray_refused l) q

tray_served_lem : (l : Ledger) (s : Served) → TrayKept l (tray_served s)
unfolding tray_served
tray_served_lem l s r e = absurd cc

tray_kept : (l : Ledger) (room places : ℕ) (votes : List ℕ) → TrayKept l (tray l room places votes)
unfolding tray
tray_kept l room places votes =
    given_keeps (TrayKept l) (well_formed l) _ _ (tray_refusal l refusal.BadRecord)
    (λ _. given_keeps (TrayKept l) (leb outbox_words room && leb (whole_votes votes) places) _ _ (tray_refusal l refusal.NoRoom)
    (λ _. given_keeps (TrayKept l) (eqb (length votes % 4) 0) _ _ (tray_refusal l refusal.BadLength) (λ _. tray_served_lem l (serve l (votes_in votes)))))

pub tray_refused_lem : TrayRefused
unfolding tray_leaves tray_refused serve spelled over
tray_refused_lem ws out votes places r ws' left answers h =
    by_test (is_spelled ws)
    (λ t.
    let q : tray_leaves ws out votes places ≡ as_served (tray (ledger_of ws) (length out) (length places) votes) out places = given_on _ _ _ t in
    let k = tray_kept (ledger_of ws) (length out) (length places) votes r (ap (λ (x : trays.Leaves). x.answer) (sym q) ∙ sym h.answered) in
    let f : tray_leaves ws out votes places ≡ as_served (tray_refused (ledger_of ws) r) out places = q ∙ ap (λ (x : Tray). as_served x out places) k in (
      h.words ∙ ap (λ (x : trays.Leaves). x.words) f ∙ spelled_words ws t,
      h.outbox ∙ ap (λ (x : trays.Leaves). x.outbox) f,
      h.answers ∙ ap (λ (x : trays.Leaves). x.answers) f,
    ))
    (λ t.
    let f : tray_leaves ws out votes places ≡ trays.as_found refusal.BadRecord ws out places = given_off _ _ _ t in (
      h.words ∙ ap (λ (x : trays.Leaves). x.words) f,
      h.outbox ∙ ap (λ (x : trays.Leaves). x.outbox) f,
      h.answers ∙ ap (λ (x : trays.Leaves). x.answers) f,
    ))

-- ---- the writers

-- A refusal writes nothing.
abbrev Unwritten : Wrote → Type 0
Unwritten w = (r : Refusal) → w.answer ≡ Err r → w.bytes ≡ []

wrote_unwritten : (v : Result ⊤ Refusal) (bytes : List ℕ) → Unwritten (wrote_on v bytes)
unfolding wrote_on
wrote_unwritten (Ok tt) bytes r e = absurd cc
wrote_unwritten (Err x) bytes r e = refl

unsound_unwritten : Unwritten unsound
unfolding unsound
unsound_unwritten r e = refl

certificate_unwritten : (ws : List ℕ) (room kind s b : ℕ) → Unwritten (certificate_on ws room kind s b)
unfolding certificate_on write_certificate
certificate_unwritten ws room kind s b =
    let k = kind_on ws kind in
    given_keeps Unwritten (sound_words ws) _ _ unsound_unwritten
    (λ _. wrote_unwritten (certificate_verdict (ledger_of ws) room k s b) (certificate_bytes (certificate_for (ledger_of ws) k s b)))

proof_unwritten : (ws : List ℕ) (room s b : ℕ) → Unwritten (proof_on ws room s b)
unfolding proof_on write_proof
proof_unwritten ws room s b =
    given_keeps Unwritten (sound_words ws) _ _ unsound_unwritten
    (λ _. wrote_unwritten (proof_verdict (ledger_of ws) room s b) (proof_bytes (ledger_of ws) s b))

over_nothing : (bytes buffer : List ℕ) → bytes ≡ [] → over bytes buffer ≡ buffer
unfolding over
over_nothing bytes buffer e = rw e

unwritten : (w : Wrote) (buffer : List ℕ) (r : Refusal) (after : List ℕ) → Unwritten w → Writes w buffer (Err r) after → after ≡ buffer
unwritten w buffer r after u h = h.bytes ∙ over_nothing w.bytes buffer (u r (sym h.answered))

pub certificate_refused : CertificateRefused
certificate_refused ws buffer k s b r after h = unwritten _ buffer r after (certificate_unwritten ws (length buffer) k s b) h

pub proof_refused : ProofRefused
proof_refused ws buffer s b r after h = unwritten _ buffer r after (proof_unwritten ws (length buffer) s b) h

pub message_refused : MessageRefused
unfolding write_vote
message_refused count v buffer r after h =
    unwritten _ buffer r after (wrote_unwritten (message_verdict count (length buffer) v) (message_bytes v)) h

-- ---- the face

pub face_start_refused : FaceStartRefused
unfolding start_panel
face_start_refused ws stakes own genesis number left h ne =
    let x = refused_told (start_answer (start_judged ws stakes own genesis)) (λ e. ne (h.numbered ∙ e)) in
    start_refused ws stakes own genesis x.0 left (record { answered = sym x.1; words = h.words })

pub face_watch_refused : FaceWatchRefused
unfolding start_panel
face_watch_refused ws stakes genesis number left h ne =
    let x = refused_told (start_answer (watch_judged ws stakes genesis)) (λ e. ne (h.numbered ∙ e)) in
    watch_refused ws stakes genesis x.0 left (record { answered = sym x.1; words = h.words })

-- The one value beside a number.
pub only : {v w : ℕ} {values : List ℕ} → v ∷ [] ≡ values → values ≡ w ∷ [] → v ≡ w
only a b = cc

pub face_step_refused : FaceStepRefused
unfolding step_panel
face_step_refused ws out i number made ws' left h ne =
    let a = (step_leaves ws out i).answer in
    let x = refused_told a (λ e. ne (h.numbered ∙ e)) in
    let k = step_refused ws out i x.0 ws' left (record { answered = sym x.1; words = h.words; outbox = h.outbox }) in
    (only h.counted (zeros_told _ _ a (λ e. ne (h.numbered ∙ e))), k.0, k.1)

pub face_take_refused : FaceTakeRefused
unfolding step_panel
face_take_refused ws out packet number made ws' left h ne =
    let a = (take_leaves ws out packet).answer in
    let x = refused_told a (λ e. ne (h.numbered ∙ e)) in
    let k = take_refused ws out packet x.0 ws' left (record { answered = sym x.1; words = h.words; outbox = h.outbox }) in
    (k.0, k.1, only h.counted (zeros_told _ _ a (λ e. ne (h.numbered ∙ e))))

pub face_tray_refused : FaceTrayRefused
unfolding step_panel
face_tray_refused ws out votes places number made ws' left answers h ne =
    let a = (tray_leaves ws out votes places).answer in
    let x = refused_told a (λ e. ne (h.numbered ∙ e)) in
    let k = tray_refused_lem ws out votes places x.0 ws' left answers (record { answered = sym x.1; words = h.words; outbox = h.outbox; answers = h.answered }) in
    (only h.counted (zeros_told _ _ a (λ e. ne (h.numbered ∙ e))), k.2, k.0, k.1)

-- A writer that answers another number than 0 wrote nothing.
none_written : (w : Wrote) (buffer : List ℕ) (number written : ℕ) (after : List ℕ) → Unwritten w → face.Wrote w buffer number written after → ¬ (number ≡ 0)
    → (written ≡ 0) × (after ≡ buffer)
unfolding write_panel
none_written w buffer number written after u h ne =
    let x = refused_told w.answer (λ e. ne (h.numbered ∙ e)) in (
      only h.counted (zeros_told _ _ w.answer (λ e. ne (h.numbered ∙ e))),
      unwritten w buffer x.0 after u (record { answered = sym x.1; bytes = h.bytes }),
    )

pub face_certificate_refused : FaceCertificateRefused
face_certificate_refused ws buffer k s b number written after h ne =
    none_written _ buffer number written after (certificate_unwritten ws (length buffer) k s b) h ne

pub face_proof_refused : FaceProofRefused
face_proof_refused ws buffer s b number written after h ne =
    none_written _ buffer number written after (proof_unwritten ws (length buffer) s b) h ne

pub face_message_refused : FaceMessageRefused
unfolding write_vote
face_message_refused count v buffer number written after h ne =
    none_written _ buffer number written after (wrote_unwritten (message_verdict count (length buffer) v) (message_bytes v)) h ne

pub face_read_refused : FaceReadRefused
unfolding read_panel
face_read_refused answer number values h ne = h.valued ∙ zeros_told _ _ answer (λ e. ne (h.numbered ∙ e))

pub face_check_refused : FaceCheckRefused
unfolding check_number check_values
face_check_refused count answer number values missing h ne = h.valued ∙ zeros_told _ _ answer (λ e. ne (h.numbered ∙ e))
