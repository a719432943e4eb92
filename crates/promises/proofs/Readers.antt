-- What a host reads of a record, and the text of a number, on the contracts. Assumes nothing.
use Rattle.std.specs.Prelude.{⊤, Result, Ok, Err}
use mathlib.Core.Path.{◌≡◌, refl, sym, ap, ◌∙◌}
use mathlib.Core.Bool.{true, false}
use mathlib.Core.List.{List, [], ◌∷◌}
use Prim.Native.Nat.{ℕ, ◌*◌}
use native.Mathlib.Omega.{arith}
use lib.ListN.{length, get_or}
use lib.Dec.{leb, ltb, eqb}
use borrow.Author.Tests.{leb-true, leb-false, eqb-true, eqb-false}
use Rattle.rulebook.specs.declared.Refusal.{Refusal}
use Rattle.rulebook.specs.declared.Refusal.TheVariants as refusal
use Rattle.rulebook.specs.declared.Who.TheVariants as who
use Rattle.rulebook.specs.declared.Accepted.{Accepted}
use Rattle.rulebook.specs.PaperNumbers.{Panel, refusal_number, verdict_number, write_panel, check_number}
use Rattle.rulebook.specs.Weights.{slot_ok}
use Rattle.rulebook.specs.Ledger.{none, table_of}
use Rattle.rulebook.specs.Pool.{weigh}
use Rattle.rulebook.specs.Rules.{fallback_weights}
use Rattle.rulebook.specs.Inputs.{refuse_if, not_in_table, block_verdict}
use Rattle.rulebook.specs.Tools.{part}
use Rattle.rulebook.specs.Checker.{check_proof}
use Rattle.rulebook.specs.Writers.{Wrote, wrote_on, over}
use Rattle.rule_laws.proofs.ToolLaws.{by_test}
use Rattle.rule_laws.proofs.PanelLaws.{refusal_numbered, zeros_told}
use Rattle.record.specs.Layout.{ledger_of}
use Rattle.soundness.specs.Sound.{sound_words}
use Rattle.mail.specs.Policy.{may_announce}
use Rattle.announcing.specs.Asked.{judged, announce_panel}
use Rattle.announcing.proofs.Laws.{asked_unsound, asked_sound}
use Rattle.vouched_packets.specs.Asked.{first_end}
use Rattle.vouched_packets.specs.Split.{split_by, split_panel}
use Rattle.vouched_packets.proofs.Splitting.{split_unsound, split_sound}
use Rattle.readers.specs.Asked.{final_on, armed_on, votes_on, blocks_on, marks_on, final_panel, armed_panel, votes_panel, blocks_panel, marks_panel, head_panel}
use Rattle.readers.specs.Weighed.{missing_d, weights_kept, weights_on, weights_panel}
use Rattle.readers.proofs.Ways.{slot_unsound, slot_none, slot_asked, votes_none, votes_there, head_unsound, head_asked, weights_none, weights_there}
use Rattle.readers.proofs.Missing.{missing_exactly, missing_nothing}
use Rattle.inquest_lines.specs.declared.ListRefusal.{ListRefusal}
use Rattle.inquest_lines.specs.declared.ListRefusal.TheVariants as why
use Rattle.inquest_lines.specs.Lent.{list_panel}
use Rattle.kept_lines.specs.Lent.{Listing, refused_by, spell_all, certificates_on, ToldIn}
use Rattle.kept_lines.proofs.Laws.{on_unsound, on_none, on_slot_lem, cramped, roomy}
use Rattle.answers.specs.Face.{WeightsRead}
use Rattle.texts.specs.Texts.{refusal_text, text_room, text_on}
use Rattle.promises.specs.Panels.{shown, beside_it, sound_first, proof_checked}
use Rattle.promises.specs.Differs.{shown_as}
use Rattle.promises.proofs.Refused.{only}
use Rattle.promises.proofs.ShownChecks.{proof_check_shown}
use Rattle.promises.specs.Readers.{FinalShown, ArmedShown, AnnounceShown, SplitShown, VotesShown, BlocksShown, MarksShown, HeadShown, WeightsShown, FaceWeightsMissing, kept_of, KeptTold, CertificatesShown, FaceCertificates, TextShown, FaceFinalRefused, FaceArmedRefused, FaceAnnounceRefused, FaceSplitRefused, FaceVotesRefused, FaceBlocksRefused, FaceMarksRefused, FaceHeadRefused, FaceWeightsRefused, FaceCertificatesRefused, FaceTextRefused}
use Rattle.readers.specs.declared.BlockWeights.{BlockWeights}

-- ---- what is answered

-- 17 before all else.
pub unsound_final : (ws : List ℕ) (s : ℕ) → sound_words ws ≡ false → final_on ws s ≡ Err refusal.BadRecord
unfolding final_on
unsound_final ws s e = slot_unsound Err ws s _ e

pub unsound_armed : (ws : List ℕ) (s : ℕ) → sound_words ws ≡ false → armed_on ws s ≡ Err refusal.BadRecord
unfolding armed_on
unsound_armed ws s e = slot_unsound Err ws s _ e

pub unsound_votes : (ws : List ℕ) (s n : ℕ) → sound_words ws ≡ false → votes_on ws s n ≡ Err refusal.BadRecord
unfolding votes_on
unsound_votes ws s n e = slot_unsound Err ws s _ e

pub unsound_blocks : (ws : List ℕ) (s : ℕ) → sound_words ws ≡ false → blocks_on ws s ≡ Err refusal.BadRecord
unfolding blocks_on
unsound_blocks ws s e = slot_unsound Err ws s _ e

pub unsound_marks : (ws : List ℕ) (s : ℕ) → sound_words ws ≡ false → marks_on ws s ≡ Err refusal.BadRecord
unfolding marks_on
unsound_marks ws s e = slot_unsound Err ws s _ e

pub final_shown : FinalShown
unfolding shown sound_first refuse_if beside_it final_on final_panel verdict_number refusal_number
final_shown ws s a e =
    by_test (sound_words ws)
    (λ t. by_test (slot_ok s)
    (λ u. rw (e ∙ slot_asked Err ws s _ t u, t, u))
    (λ u. rw (e ∙ slot_none Err ws s _ t u, t, u)))
    (λ t. rw (e ∙ slot_unsound Err ws s _ t, t))

pub armed_shown_lem : ArmedShown
unfolding shown sound_first refuse_if beside_it armed_on armed_panel verdict_number refusal_number
armed_shown_lem ws s a e =
    by_test (sound_words ws)
    (λ t. by_test (slot_ok s)
    (λ u. rw (e ∙ slot_asked Err ws s _ t u, t, u))
    (λ u. rw (e ∙ slot_none Err ws s _ t u, t, u)))
    (λ t. rw (e ∙ slot_unsound Err ws s _ t, t))

pub announce_shown : AnnounceShown
unfolding shown sound_first refuse_if beside_it judged announce_panel verdict_number refusal_number
announce_shown ws s b a e =
    by_test (sound_words ws)
    (λ t. go t (block_verdict (ledger_of ws) s b) refl)
    (λ t. rw (e ∙ sym (asked_unsound ws s b t), t))
  where
    go : sound_words ws ≡ true → (v : Result ⊤ Refusal) → block_verdict (ledger_of ws) s b ≡ v
        → announce_panel a ≡ shown (sound_first ws (block_verdict (ledger_of ws) s b)) (part (may_announce (ledger_of ws) s b.number) 1 ∷ [])
    go t (Ok tt) p = rw (e ∙ sym (asked_sound ws s b t), t, p)
    go t (Err r) p = rw (e ∙ sym (asked_sound ws s b t), t, p)

-- What the proof checker is shown to say of a packet is what the splitter answers of it.
split_checked : (packet : List ℕ) (x : Result Accepted Refusal) (v : Result ⊤ Refusal) → check_number x ≡ verdict_number v → split_panel (split_by packet x) ≡ shown v (first_end packet ∷ [])
unfolding shown beside_it split_by split_panel check_number verdict_number
split_checked packet (Ok a) (Ok tt) e = refl
split_checked packet (Ok a) (Err r) e = absurd (omega (arith, refusal_numbered r, e))
split_checked packet (Err r) (Ok tt) e = absurd (omega (arith, refusal_numbered r, e))
split_checked packet (Err r) (Err q) e = ap (λ (n : ℕ). record { number = n; values = 0 ∷ [] }) e

proof_number : (stakes packet : List ℕ) → check_number (check_proof stakes packet) ≡ verdict_number (proof_checked stakes packet)
unfolding shown
proof_number stakes packet = ap (λ (p : Panel). p.number) (proof_check_shown stakes packet (check_proof stakes packet) refl).panel

pub split_shown : SplitShown
unfolding shown sound_first refuse_if beside_it split_panel verdict_number refusal_number
split_shown ws packet a e =
    let stakes : List ℕ = table_of (ledger_of ws) in
    by_test (sound_words ws)
    (λ t. rw (e ∙ sym (split_sound ws packet t), t) (split_checked packet (check_proof stakes packet) (proof_checked stakes packet) (proof_number stakes packet)))
    (λ t. rw (e ∙ sym (split_unsound ws packet t), t))

pub blocks_shown : BlocksShown
unfolding shown sound_first refuse_if beside_it blocks_on blocks_panel verdict_number refusal_number
blocks_shown ws s a e =
    by_test (sound_words ws)
    (λ t. by_test (slot_ok s)
    (λ u. rw (e ∙ slot_asked Err ws s _ t u, t, u))
    (λ u. rw (e ∙ slot_none Err ws s _ t u, t, u)))
    (λ t. rw (e ∙ slot_unsound Err ws s _ t, t))

pub marks_shown : MarksShown
unfolding shown sound_first refuse_if beside_it marks_on marks_panel verdict_number refusal_number
marks_shown ws s a e =
    by_test (sound_words ws)
    (λ t. by_test (slot_ok s)
    (λ u. rw (e ∙ slot_asked Err ws s _ t u, t, u))
    (λ u. rw (e ∙ slot_none Err ws s _ t u, t, u)))
    (λ t. rw (e ∙ slot_unsound Err ws s _ t, t))

pub head_shown : HeadShown
unfolding shown sound_first refuse_if beside_it head_panel verdict_number refusal_number
head_shown ws a e = by_test (sound_words ws) (λ t. rw (e ∙ head_asked ws t, t)) (λ t. rw (e ∙ head_unsound ws t, t))

slotless_votes : (ws : List ℕ) (s n : ℕ) → sound_words ws ≡ true → slot_ok s ≡ false → votes_on ws s n ≡ Err refusal.BadSlot
unfolding votes_on
slotless_votes ws s n e q = slot_none Err ws s _ e q

pub votes_shown : VotesShown
unfolding shown sound_first refuse_if beside_it votes_panel verdict_number refusal_number
votes_shown ws s n a e =
    by_test (sound_words ws)
    (λ t. by_test (slot_ok s)
    (λ u. by_test (not_in_table (ledger_of ws).count n)
    (λ v. rw (e ∙ votes_none ws s t u n v, t, u, v))
    (λ v. rw (e ∙ votes_there ws s t u n v, t, u, v)))
    (λ u. rw (e ∙ slotless_votes ws s n t u, t, u)))
    (λ t. rw (e ∙ unsound_votes ws s n t, t))

pub unsound_weights : (ws : List ℕ) (s b : ℕ) → sound_words ws ≡ false → weights_on ws s b ≡ Err refusal.BadRecord
unfolding weights_on
unsound_weights ws s b e = slot_unsound Err ws s _ e

slotless_weights : (ws : List ℕ) (s b : ℕ) → sound_words ws ≡ true → slot_ok s ≡ false → weights_on ws s b ≡ Err refusal.BadSlot
unfolding weights_on
slotless_weights ws s b e q = slot_none Err ws s _ e q

pub weights_shown : WeightsShown
unfolding shown sound_first refuse_if beside_it weights_panel verdict_number refusal_number
weights_shown ws s b a e =
    by_test (sound_words ws)
    (λ t. by_test (slot_ok s)
    (λ u. by_test (none b)
    (λ v. rw (e ∙ weights_none ws s t u b (eqb-true b 0 v), t, u, v))
    (λ v. rw (e ∙ weights_there ws s t u b (eqb-false b 0 v), t, u, v)))
    (λ u. rw (e ∙ slotless_weights ws s b t u, t, u)))
    (λ t. rw (e ∙ unsound_weights ws s b t, t))

-- Where the number is 0, the fourth value is what is missing.
missing_told : (ws : List ℕ) (s b : ℕ) (values : List ℕ) → WeightsRead (weights_on ws s b) 0 values
    → get_or values 3 0 ≡ missing_d (ledger_of ws).total (weigh (ledger_of ws) s (who.Notar b)) (weigh (ledger_of ws) s who.Skip)
unfolding weights_panel weights_kept refusal_number
missing_told ws s b values h =
    by_test (sound_words ws)
    (λ t. by_test (slot_ok s)
    (λ u. by_test (none b)
    (λ v. refused refusal.BadBlock (weights_none ws s t u b (eqb-true b 0 v)) (λ q. omega (arith, q)))
    (λ v. ap (λ (x : List ℕ). get_or x 3 0) (h.valued ∙ ap (λ (a : Result BlockWeights Refusal). (weights_panel a).values) (weights_there ws s t u b (eqb-false b 0 v)))))
    (λ u. refused refusal.BadSlot (slotless_weights ws s b t u) (λ q. omega (arith, q))))
    (λ t. refused refusal.BadRecord (unsound_weights ws s b t) (λ q. omega (arith, q)))
  where
    refused : {X : Type 0} (r : Refusal) → weights_on ws s b ≡ Err r → (0 ≡ refusal_number r → ⊥) → X
    refused r e n = absurd (n (h.numbered ∙ ap (λ (a : Result BlockWeights Refusal). (weights_panel a).number) e))

pub face_weights_missing : FaceWeightsMissing
unfolding fallback_weights
face_weights_missing =
    record {
      nothing = λ ws s b values h.
          missing_nothing (ledger_of ws).total (weigh (ledger_of ws) s (who.Notar b)) (weigh (ledger_of ws) s who.Skip) ∙ ap (λ (m : ℕ). eqb m 0) (sym (missing_told ws s b values h));
      least = λ ws s b values h x.
          missing_exactly (ledger_of ws).total (weigh (ledger_of ws) s (who.Notar b)) (weigh (ledger_of ws) s who.Skip) x ∙ ap (λ (m : ℕ). leb m x) (sym (missing_told ws s b values h));
    }

module _ (ws : List ℕ) (s : ℕ) (list left : List ℕ) (p : Panel) (e : p ≡ list_panel (certificates_on ws s (length list)).answer) (f : left ≡ over (certificates_on ws s (length list)).words list) where
  -- What the definition comes to is told.
  kept_way : (d : Listing) → certificates_on ws s (length list) ≡ d → (p ≡ list_panel d.answer) × (left ≡ over d.words list)
  kept_way d q = (e ∙ ap (λ (x : Listing). list_panel x.answer) q, f ∙ ap (λ (x : Listing). over x.words list) q)

  kept_told : KeptTold ws s list p left
  unfolding list_panel refusal_number over
  kept_told =
      record {
        bad = λ a. kept_way (refused_by (Err (why.Refused refusal.BadRecord))) (on_unsound ws s (length list) a);
        slotless = λ a b. kept_way (refused_by (Err (why.Refused refusal.BadSlot))) (on_none ws s (length list) a b);
        cramped = λ a b h. kept_way (refused_by (Err (why.NoRoom (length (kept_of ws s))))) (on_slot_lem ws s (length list) a b ∙ cramped (ledger_of ws).count list (kept_of ws s) h);
        whole = λ a b h. kept_way (record { answer = Ok (length (kept_of ws s)); words = spell_all (ledger_of ws).count (kept_of ws s) }) (on_slot_lem ws s (length list) a b ∙ roomy (ledger_of ws).count list (kept_of ws s) h);
      }

-- Two allowed results are equal.
pub certificates_one : (ws : List ℕ) (s : ℕ) (list : List ℕ) {left left' : List ℕ} {r r' : Result ℕ ListRefusal} → ToldIn list (certificates_on ws s (length list)) r left
    → ToldIn list (certificates_on ws s (length list)) r' left' → (r ≡ r') × (left ≡ left')
certificates_one ws s list a b = (a.answered ∙ sym b.answered, a.listed ∙ sym b.listed)

pub certificates_shown : CertificatesShown
certificates_shown ws s list r left d = kept_told ws s list left (list_panel r) (ap list_panel d.answered) d.listed

pub face_certificates : FaceCertificates
face_certificates ws s list number beside left d =
    kept_told ws s list left (shown_as number beside) (λ i. record { number = d.numbered i; values = d.counted i }) d.lines

module _ (room n : ℕ) where
  -- A buffer that is too short, and any other.
  text_off : ltb room text_room ≡ true → text_on room n ≡ record { answer = Err refusal.NoRoom; bytes = [] }
  unfolding text_on refuse_if wrote_on
  text_off t = rw t refl

  text_on_lem : ltb room text_room ≡ false → text_on room n ≡ record { answer = Ok (length (refusal_text n)); bytes = refusal_text n }
  unfolding text_on refuse_if wrote_on
  text_on_lem t = rw t refl

pub text_shown : TextShown
unfolding shown refuse_if beside_it write_panel verdict_number refusal_number
text_shown buffer n a after h =
    by_test (ltb (length buffer) text_room)
    (λ t. rw (h.answered ∙ ap (λ (w : Wrote). w.answer) (text_off (length buffer) n t), t))
    (λ t. rw (h.answered ∙ ap (λ (w : Wrote). w.answer) (text_on_lem (length buffer) n t), t))

-- ---- refusals

pub face_final_refused : FaceFinalRefused
unfolding final_panel
face_final_refused answer number block h ne = only h.valued (zeros_told _ _ answer (λ e. ne (h.numbered ∙ e)))

pub face_armed_refused : FaceArmedRefused
unfolding armed_panel
face_armed_refused answer number armed h ne = only h.valued (zeros_told _ _ answer (λ e. ne (h.numbered ∙ e)))

pub face_announce_refused : FaceAnnounceRefused
unfolding announce_panel
face_announce_refused answer number may h ne = only h.valued (zeros_told _ _ answer (λ e. ne (h.numbered ∙ e)))

pub face_split_refused : FaceSplitRefused
unfolding split_panel
face_split_refused answer number first h ne = only h.valued (zeros_told _ _ answer (λ e. ne (h.numbered ∙ e)))

pub face_votes_refused : FaceVotesRefused
unfolding votes_panel
face_votes_refused answer number values h ne = h.valued ∙ zeros_told _ _ answer (λ e. ne (h.numbered ∙ e))

pub face_blocks_refused : FaceBlocksRefused
unfolding blocks_panel
face_blocks_refused answer number values h ne = h.valued ∙ zeros_told _ _ answer (λ e. ne (h.numbered ∙ e))

pub face_marks_refused : FaceMarksRefused
unfolding marks_panel
face_marks_refused answer number values h ne = h.valued ∙ zeros_told _ _ answer (λ e. ne (h.numbered ∙ e))

pub face_head_refused : FaceHeadRefused
unfolding head_panel
face_head_refused answer number values h ne = h.valued ∙ zeros_told _ _ answer (λ e. ne (h.numbered ∙ e))

pub face_weights_refused : FaceWeightsRefused
unfolding weights_panel
face_weights_refused answer number values h ne = h.valued ∙ zeros_told _ _ answer (λ e. ne (h.numbered ∙ e))

pub face_certificates_refused : FaceCertificatesRefused
face_certificates_refused ws s list number beside left d ne =
    let t = face_certificates ws s list number beside left d in
    by_test (sound_words ws)
    (λ a. by_test (slot_ok s)
    (λ b. by_test (leb (5 * length (kept_of ws s)) (length list))
    (λ h. absurd (ne (ap (λ (x : Panel). x.number) (t.whole a b (leb-true (5 * length (kept_of ws s)) (length list) h)).0)))
    (λ h. (t.cramped a b (leb-false (5 * length (kept_of ws s)) (length list) h)).1))
    (λ b. (t.slotless a b).1))
    (λ a. (t.bad a).1)

pub face_text_refused : FaceTextRefused
unfolding write_panel over
face_text_refused buffer n number written after h ne =
    by_test (ltb (length buffer) text_room)
    (λ t.
    let w = text_off (length buffer) n t in
    (only h.counted (ap (λ (x : Wrote). (write_panel x.answer).values) w), h.bytes ∙ ap (λ (x : Wrote). over x.bytes buffer) w))
    (λ t. absurd (ne (h.numbered ∙ ap (λ (x : Wrote). (write_panel x.answer).number) (text_on_lem (length buffer) n t))))
