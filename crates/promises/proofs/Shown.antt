-- What the panel shows of the answers of start, step, take, tray and the writers. Assumes nothing.
use Rattle.std.specs.Prelude.{⊤, Result, Ok, Err}
use mathlib.Core.Path.{◌≡◌, refl, sym, ap, ◌∙◌}
use mathlib.Core.Bool.{Bool, true, false, not, ◌&&◌}
use mathlib.Core.List.{List, [], ◌∷◌}
use Prim.Native.Nat.{ℕ, ◌%◌}
use lib.ListN.{length, length-reverse}
use lib.Dec.{eqb, leb, ltb}
use borrow.Author.Tests.{ne_eqb, le-ltb, le-leb, lt-leb, ltb-true, ltb-false}
use Rattle.rulebook.specs.declared.Input.{Input}
use Rattle.rulebook.specs.declared.Input.TheVariants as input
use Rattle.rulebook.specs.declared.Place.{Place}
use Rattle.rulebook.specs.declared.Place.TheVariants as place
use Rattle.rulebook.specs.declared.Refusal.{Refusal}
use Rattle.rulebook.specs.declared.Refusal.TheVariants as refusal
use Rattle.rulebook.specs.declared.Vote.{Vote}
use Rattle.rulebook.specs.Certificates.{Certificate, Found}
use Rattle.rulebook.specs.Certificates as found
use Rattle.rulebook.specs.Tools.{whenever}
use Rattle.rulebook.specs.PaperNumbers.{Panel, kind_in, verdict_number, place_number, start_panel, step_panel, write_panel, refusal_number}
use Rattle.rulebook.specs.Weights.{stakes_fit}
use Rattle.rulebook.specs.Ledger.{Ledger, table_of, cell_at, certificates_at}
use Rattle.rulebook.specs.Votes.{place_of}
use Rattle.rulebook.specs.Rules.{state_of}
use Rattle.rulebook.specs.Run.{run}
use Rattle.rulebook.specs.Inputs.{Fed, refuse_if, place_verdict, vote_verdict, verdict, intake, fed_with, refused_with, fed_on, feed}
use Rattle.rulebook.specs.Taking.{kept_verdict, keep_certificate, taken_on, taken, taken_from, take_packet}
use Rattle.rulebook.specs.WellFormed.{well_formed, outbox_words, step, take_certificate}
use Rattle.rulebook.specs.Packets.{certificate_at, certificate_bytes}
use Rattle.rulebook.specs.Checker.{judge, judged, one_of, one_at}
use Rattle.rulebook.specs.Writers.{Wrote, certificate_for, wrote_on, write_certificate, certificate_verdict, write_proof, proof_verdict, proof_bytes}
use Rattle.rule_laws.proofs.ToolLaws.{given_on, given_off, by_test}
use Rattle.packets.proofs.Table.{table_of_record}
use Rattle.record.specs.Layout.{ledger_of}
use Rattle.record.specs.Spelling.{is_spelled}
use Rattle.soundness.specs.Sound.{sound_words}
use Rattle.starts.specs.Starting.{start_judged, start_answer, watch_judged}
use Rattle.node.specs.Stepping.{as_found, as_fed, step_leaves}
use Rattle.taking.specs.Taking.{take_leaves}
use Rattle.tray_rules.specs.Trays.{votes_in, whole_votes, serve, Tray, tray_refused, tray_served, tray}
use Rattle.trays.specs.Lent as trays
use Rattle.trays.specs.Lent.{tray_leaves}
use Rattle.writers.specs.Writing.{unsound, kind_on, certificate_on, proof_on}
use Rattle.promises.specs.Panels.{beside_it, shown, sound_first, step_judged, VotePassed, tray_judged, else_then, whole_then, nothing_after, certificate_checked, kept_judged, take_judged, StartShown, WatchShown, StepShown, TakeShown, TrayShown, PlaceShown, CertificateShown, ProofShown}

-- ---- start

verdict_started : (v : Result ⊤ Refusal) → start_panel (start_answer v) ≡ shown v []
unfolding start_panel start_answer shown beside_it verdict_number
verdict_started (Ok tt) = refl
verdict_started (Err r) = refl

pub start_shown : StartShown
start_shown ws stakes own genesis a left h = ap start_panel h.answered ∙ verdict_started (start_judged ws stakes own genesis)

pub watch_shown : WatchShown
watch_shown ws stakes genesis a left h = ap start_panel h.answered ∙ verdict_started (watch_judged ws stakes genesis)

-- ---- step

fed_shown : (l : Ledger) (i : Input) (v : Result ⊤ Refusal) → step_panel (fed_on v l i).answer ≡ shown v (length (fed_on v l i).records ∷ [])
unfolding step_panel fed_on fed_with refused_with shown beside_it verdict_number
fed_shown l i (Ok tt) = ap (λ (n : ℕ). record { number = 0; values = n ∷ [] }) (sym (length-reverse (run (intake l i)).records))
fed_shown l i (Err r) = refl

-- An outbox that is too small, by either test.
room_tested : (room : ℕ) → not (leb outbox_words room) ≡ ltb room outbox_words
room_tested room =
    by_test (ltb room outbox_words) (λ t. ap not (lt-leb outbox_words room (ltb-true room outbox_words t)) ∙ sym t)
    (λ t. ap not (le-leb outbox_words room (ltb-false room outbox_words t)) ∙ sym t)

-- 17, 9, and then what is due to what is given: an input or a packet.
first_shown : (a b c : Bool) (ws out : List ℕ) (l : Ledger) (rest : Fed) (v : Result ⊤ Refusal) (n : ℕ) → (b ≡ true → step_panel rest.answer ≡ shown v (n ∷ []))
    → step_panel (whenever a (λ _. as_fed (whenever b (λ _. whenever c (λ _. rest) (refused_with l refusal.NoRoom)) (refused_with l refusal.BadRecord)) out) (as_found refusal.BadRecord ws out)).answer
    ≡ shown (refuse_if (not (a && b)) refusal.BadRecord (refuse_if (not c) refusal.NoRoom v)) (n ∷ [])
unfolding whenever refuse_if refused_with step_panel shown beside_it verdict_number
first_shown false b c ws out l rest v n h = refl
first_shown true false c ws out l rest v n h = refl
first_shown true true false ws out l rest v n h = refl
first_shown true true true ws out l rest v n h = h refl

module _ (ws out : List ℕ) where
  abbrev ledger : Ledger
  ledger = ledger_of ws

  abbrev judged_first : Result ⊤ Refusal → Bool → Result ⊤ Refusal
  judged_first v t = sound_first ws (refuse_if t refusal.NoRoom v)

  leaves_shown : (i : Input) → step_panel (step_leaves ws out i).answer ≡ shown (step_judged ws out i) (length (feed ledger i).records ∷ [])
  unfolding step_leaves step feed step_judged sound_first sound_words
  leaves_shown i =
      let v = verdict ledger i in
      let n = length (fed_on v ledger i).records in
      first_shown (is_spelled ws) (well_formed ledger) (leb outbox_words (length out)) ws out ledger (fed_on v ledger i) v n (λ _. fed_shown ledger i v)
      ∙ ap (λ (t : Bool). shown (judged_first v t) (n ∷ [])) (room_tested (length out))

pub step_shown : StepShown
step_shown ws out i a ws' left h = ap step_panel h.answered ∙ leaves_shown ws out i

-- A vote's place.
place_number_lem : (p : Place) → verdict_number (place_verdict p) ≡ place_number p
unfolding place_number verdict_number place_verdict refusal_number
place_number_lem place.Free = refl
place_number_lem place.Same = refl
place_number_lem place.Taken = refl

vote_judged : (ws out : List ℕ) (v : Vote) → VotePassed ws out v
    → step_judged ws out (input.Vote v) ≡ place_verdict (place_of (cell_at (ledger_of ws) v.slot.0 v.node.0) v.kind v.block)
unfolding step_judged sound_first refuse_if verdict vote_verdict
vote_judged ws out v h =
    rw (
      h.sound,
      le-ltb (length out) outbox_words h.room,
      h.kind,
      h.slot,
      lt-leb (ledger_of ws).count v.node.0 h.node,
      ne_eqb v.node.0 (ledger_of ws).own h.not_own,
      h.block,
    )

pub place_shown : PlaceShown
unfolding shown
place_shown ws out v a ws' left p h =
    ap (λ (x : Panel). x.number) (step_shown ws out (input.Vote v) a ws' left h) ∙ ap verdict_number (vote_judged ws out v p)
    ∙ place_number_lem (place_of (cell_at (ledger_of ws) v.slot.0 v.node.0) v.kind v.block)

-- ---- a certificate from another firm

module _ (l : Ledger) (packet : List ℕ) where
  module _ (c : Certificate) where
    abbrev kept : Result ⊤ Refusal
    kept = kept_verdict (certificates_at l c.slot) (kind_in l.count c.kind) c.block

    kept_shown_lem : (v : Result ⊤ Refusal) → step_panel (taken_on v l c).answer ≡ shown v (length (taken_on v l c).records ∷ [])
    unfolding step_panel taken_on fed_with refused_with shown beside_it verdict_number
    kept_shown_lem (Ok tt) = ap (λ (n : ℕ). record { number = 0; values = n ∷ [] }) (sym (length-reverse (run (state_of (keep_certificate l c) [])).records))
    kept_shown_lem (Err r) = refl

    after_shown : (t : Bool)
        → step_panel (whenever (not t) (λ _. taken l c) (refused_with l refusal.BadLength)).answer
        ≡ shown (else_then (refuse_if t refusal.BadLength (Ok tt)) kept) (length (whenever (not t) (λ _. taken l c) (refused_with l refusal.BadLength)).records ∷ [])
    unfolding whenever refuse_if refused_with step_panel shown beside_it verdict_number else_then taken
    after_shown true = refl
    after_shown false = kept_shown_lem kept

    judged_shown : (n : ℕ) (v : Result ⊤ Refusal)
        → step_panel (taken_from l packet (judged v c n)).answer
        ≡ shown (else_then (else_then v (nothing_after packet n)) kept) (length (taken_from l packet (judged v c n)).records ∷ [])
    unfolding taken_from judged else_then nothing_after refused_with step_panel shown beside_it verdict_number
    judged_shown n (Ok tt) = after_shown (ltb n (length packet))
    judged_shown n (Err r) = refl

  found_shown : (x : Found)
      → step_panel (taken_from l packet (one_of (table_of l) x)).answer
      ≡ shown (else_then (whole_then (table_of l) x (λ c n. nothing_after packet n)) (kept_judged l x)) (length (taken_from l packet (one_of (table_of l) x)).records ∷ [])
  unfolding taken_from one_of whole_then kept_judged else_then refused_with step_panel shown beside_it verdict_number
  found_shown (found.Whole c n) = judged_shown c n (judge (table_of l) c)
  found_shown found.Early = refl
  found_shown found.Malformed = refl

  -- What the checker refuses, then 7 and 8.
  packet_shown : stakes_fit (table_of l) (length (table_of l)) ≡ true
      → step_panel (take_packet l packet).answer
      ≡ shown (else_then (certificate_checked (table_of l) packet) (kept_judged l (certificate_at packet 0))) (length (take_packet l packet).records ∷ [])
  unfolding take_packet one_at certificate_checked refuse_if
  packet_shown e = rw e (found_shown (certificate_at packet 0))

take_leaves_shown : (ws out packet : List ℕ)
    → step_panel (take_leaves ws out packet).answer ≡ shown (take_judged ws out packet) (length (take_packet (ledger_of ws) packet).records ∷ [])
unfolding take_leaves take_certificate take_judged sound_first sound_words
take_leaves_shown ws out packet =
    let l = ledger_of ws in
    let v = else_then (certificate_checked (table_of l) packet) (kept_judged l (certificate_at packet 0)) in
    let n = length (take_packet l packet).records in
    first_shown (is_spelled ws) (well_formed l) (leb outbox_words (length out)) ws out l (take_packet l packet) v n (λ f. packet_shown l packet (table_of_record l f).fits)
    ∙ ap (λ (t : Bool). shown (judged_first ws out v t) (n ∷ [])) (room_tested (length out))

pub take_shown : TakeShown
take_shown ws out packet a ws' left h = ap step_panel h.answered ∙ take_leaves_shown ws out packet

-- ---- the tray

-- A test of a tray, and what is found after it.
test_shown : (b : Bool) (l : Ledger) (r : Refusal) (n : ℕ) (f : Unit {0} → Tray) (v : Result ⊤ Refusal) → step_panel (f tt).answer ≡ shown v (n ∷ [])
    → step_panel (whenever b f (tray_refused l r)).answer ≡ shown (refuse_if (not b) r v) (n ∷ [])
unfolding whenever refuse_if tray_refused step_panel shown beside_it verdict_number
test_shown true l r n f v e = e
test_shown false l r n f v e = refl

-- 9, then 12, of a run of votes.
abbrev room_then_part : List ℕ → List ℕ → List ℕ → Result ⊤ Refusal
room_then_part out votes places =
    refuse_if (not (leb outbox_words (length out) && leb (whole_votes votes) (length places))) refusal.NoRoom
    (refuse_if (not (eqb (length votes % 4) 0)) refusal.BadLength (Ok tt))

tray_tested : (l : Ledger) (out votes places : List ℕ)
    → step_panel (tray l (length out) (length places) votes).answer
    ≡ shown (refuse_if (not (well_formed l)) refusal.BadRecord (room_then_part out votes places)) (length (serve l (votes_in votes)).records ∷ [])
unfolding tray tray_served step_panel shown beside_it verdict_number
tray_tested l out votes places =
    let n : ℕ = length (serve l (votes_in votes)).records in
    test_shown (well_formed l) l refusal.BadRecord n _ (room_then_part out votes places)
    (test_shown (leb outbox_words (length out) && leb (whole_votes votes) (length places)) l refusal.NoRoom n _ (refuse_if (not (eqb (length votes % 4) 0)) refusal.BadLength (Ok tt))
    (test_shown (eqb (length votes % 4) 0) l refusal.BadLength n _ (Ok tt) refl))

tray_leaves_shown : (ws out votes places : List ℕ)
    → step_panel (tray_leaves ws out votes places).answer ≡ shown (tray_judged ws out votes places) (length (serve (ledger_of ws) (votes_in votes)).records ∷ [])
unfolding tray_leaves tray_judged sound_first sound_words refuse_if step_panel shown beside_it verdict_number
tray_leaves_shown ws out votes places =
    let values : List ℕ = length (serve (ledger_of ws) (votes_in votes)).records ∷ [] in
    let first : Bool → Panel = λ b. shown (refuse_if (not (b && well_formed (ledger_of ws))) refusal.BadRecord (room_then_part out votes places)) values in
    by_test (is_spelled ws)
    (λ t. ap (λ (x : trays.Leaves). step_panel x.answer) (given_on _ _ _ t) ∙ tray_tested (ledger_of ws) out votes places ∙ ap first (sym t))
    (λ t. ap (λ (x : trays.Leaves). step_panel x.answer) (given_off _ _ _ t) ∙ ap first (sym t))

pub tray_shown : TrayShown
tray_shown ws out votes places a ws' left answers h = ap step_panel h.answered ∙ tray_leaves_shown ws out votes places

-- ---- the writers

pub wrote_shown : (v : Result ⊤ Refusal) (bytes : List ℕ) → write_panel (wrote_on v bytes).answer ≡ shown v (length bytes ∷ [])
unfolding write_panel wrote_on shown beside_it verdict_number
wrote_shown (Ok tt) bytes = refl
wrote_shown (Err r) bytes = refl

unsound_shown : (n : ℕ) → write_panel unsound.answer ≡ shown (Err refusal.BadRecord) (n ∷ [])
unfolding write_panel unsound shown beside_it verdict_number
unsound_shown n = refl

-- A writer on words: 17 first, then what it does on their ledger.
on_words : (ws : List ℕ) (w : Wrote) (v : Result ⊤ Refusal) (bytes : List ℕ) → (sound_words ws ≡ true → w ≡ wrote_on v bytes) → (sound_words ws ≡ false → w ≡ unsound)
    → write_panel w.answer ≡ shown (sound_first ws v) (length bytes ∷ [])
unfolding sound_first refuse_if
on_words ws w v bytes f g =
    by_test (sound_words ws)
    (λ e. ap (λ (x : Wrote). write_panel x.answer) (f e) ∙ wrote_shown v bytes ∙ ap (λ (b : Bool). shown (refuse_if (not b) refusal.BadRecord v) (length bytes ∷ [])) (sym e))
    (λ e. ap (λ (x : Wrote). write_panel x.answer) (g e) ∙ unsound_shown (length bytes) ∙ ap (λ (b : Bool). shown (refuse_if (not b) refusal.BadRecord v) (length bytes ∷ [])) (sym e))

pub certificate_shown : CertificateShown
unfolding certificate_on write_certificate
certificate_shown ws buffer kind s b a after h =
    let k = kind_on ws kind in
    ap write_panel h.answered
    ∙ on_words ws (certificate_on ws (length buffer) kind s b) (certificate_verdict (ledger_of ws) (length buffer) k s b) (certificate_bytes (certificate_for (ledger_of ws) k s b))
    (λ e. given_on _ _ _ e) (λ e. given_off _ _ _ e)

pub proof_shown : ProofShown
unfolding proof_on write_proof
proof_shown ws buffer s b a after h =
    ap write_panel h.answered
    ∙ on_words ws (proof_on ws (length buffer) s b) (proof_verdict (ledger_of ws) (length buffer) s b) (proof_bytes (ledger_of ws) s b)
    (λ e. given_on _ _ _ e) (λ e. given_off _ _ _ e)
