-- The tally card on the contracts: what is answered, 17 for a card that disagrees, and refusals. Assumes nothing.
use Rattle.std.specs.Prelude.{⊤, Result}
use mathlib.Core.Path.{◌≡◌, refl, sym, ap, ◌∙◌}
use mathlib.Core.Bool.{Bool, false}
use mathlib.Core.List.{List, [], ◌∷◌}
use Prim.Native.Nat.{ℕ}
use lib.ListN.{length}
use lib.Dec.{eqb}
use Rattle.rulebook.specs.declared.Refusal.{Refusal}
use Rattle.rulebook.specs.declared.Cell.{Cell}
use Rattle.rulebook.specs.declared.Tally.{Tally}
use Rattle.rulebook.specs.PaperNumbers.{Panel, refusal_number, verdict_number, step_panel}
use Rattle.rulebook.specs.Tools.{choose}
use Rattle.rulebook.specs.Weights.{slot_ok}
use Rattle.rulebook.specs.Ledger.{Ledger, row_at}
use Rattle.rulebook.specs.Inputs.{refuse_if, verdict, feed}
use Rattle.rule_laws.proofs.ToolLaws.{by_test}
use Rattle.rule_laws.proofs.PanelLaws.{refused_told, zeros_told}
use Rattle.record.specs.Layout.{ledger_of}
use Rattle.soundness.specs.Sound.{sound_words}
use Rattle.soundness.proofs.Laws.{disagreeing_unsound}
use Rattle.lines.specs.Answers.{missing_line, check_line}
use Rattle.node.specs.Stepping.{step_leaves}
use Rattle.taking.specs.Taking.{take_leaves}
use Rattle.trays.specs.Lent.{tray_leaves}
use Rattle.writers.specs.Writing.{certificate_on, proof_on}
use Rattle.cards.specs.Asked.{card_on, card_panel}
use Rattle.cards.proofs.Ways.{unsound_card, slotless_card, card_recounted}
use Rattle.announcing.specs.Asked.{announce_panel}
use Rattle.announcing.proofs.Laws.{asked_unsound}
use Rattle.vouched_packets.specs.Split.{split_panel}
use Rattle.vouched_packets.proofs.Splitting.{split_unsound}
use Rattle.readers.specs.Weighed.{weights_panel}
use Rattle.readers.specs.Asked.{final_panel, armed_panel, votes_panel, blocks_panel, marks_panel, head_panel}
use Rattle.readers.proofs.Ways.{head_unsound}
use Rattle.promises.specs.Panels.{shown, beside_it, sound_first, step_judged, take_judged, tray_judged}
use Rattle.promises.specs.Differs.{shown_as}
use Rattle.promises.specs.Cards.{CardShown, FaceCardRefused, card_line, CardPrinted, RefusedEverywhere, DisagreeingRefused, RefusedCards, FaceRefusedCards}
use Rattle.promises.proofs.Shown.{step_shown, take_shown, tray_shown, certificate_shown, proof_shown}
use Rattle.promises.proofs.Refused.{fed_kept, face_step_refused, face_take_refused, face_tray_refused}
use Rattle.promises.proofs.Differs.{face_differ}
use Rattle.promises.proofs.Stands.{face_stands}
use Rattle.promises.proofs.Vouched.{face_vouched, face_same_parents, face_vouched_packet}
use Rattle.promises.proofs.Readers.{unsound_final, unsound_armed, unsound_votes, unsound_blocks, unsound_marks, unsound_weights, face_certificates}
use Rattle.promises.proofs.Printed.{sends}
use Rattle.readers.specs.declared.BlockWeights.{BlockWeights}
use Rattle.readers.specs.declared.KeptBlocks.{KeptBlocks}
use Rattle.readers.specs.declared.RecordHead.{RecordHead}
use Rattle.readers.specs.declared.SlotMarks.{SlotMarks}

-- ---- what is answered

-- 17 before all else.
unsound_shown : (ws : List ℕ) (v : Result ⊤ Refusal) (values : List ℕ) → sound_words ws ≡ false → (shown (sound_first ws v) values).number ≡ 17
unfolding shown sound_first refuse_if verdict_number refusal_number
unsound_shown ws v values e = rw e

pub card_shown : CardShown
unfolding shown sound_first refuse_if beside_it card_panel verdict_number refusal_number
card_shown ws s a e =
    by_test (sound_words ws)
    (λ t. by_test (slot_ok s)
    (λ u. rw (e ∙ card_recounted ws s t u, t, u))
    (λ u. rw (e ∙ slotless_card ws s t u, t, u)))
    (λ t. rw (e ∙ unsound_card ws s t, t))

pub face_card_refused : FaceCardRefused
unfolding card_panel
face_card_refused answer number values h ne = h.valued ∙ zeros_told _ _ answer (λ e. ne (h.numbered ∙ e))

-- The number of the question for a card is never 15.
never_light : (ws : List ℕ) (s : ℕ) → eqb (card_panel (card_on ws s)).number 15 ≡ false
unfolding card_panel refusal_number
never_light ws s =
    by_test (sound_words ws)
    (λ t. by_test (slot_ok s) (λ u. rw (card_recounted ws s t u)) (λ u. rw (slotless_card ws s t u)))
    (λ t. rw (unsound_card ws s t))

pub card_printed : CardPrinted
unfolding check_line card_line choose
card_printed ws s number values h =
    sends _ _
    ((λ j. check_line (record { number = h.numbered j; values = h.valued j }) 0)
    ∙ ap (λ (t : Bool). choose t (missing_line 0) (card_line (card_panel (card_on ws s)))) (never_light ws s))

-- ---- words that are not sound, as with a card that disagrees

pub unsound_refused : (ws : List ℕ) → sound_words ws ≡ false → RefusedEverywhere ws
unfolding card_panel final_panel armed_panel announce_panel split_panel votes_panel blocks_panel marks_panel head_panel weights_panel refusal_number step_judged take_judged tray_judged
unsound_refused ws e =
    record {
      stepped = λ out i number made ws' left h.
          h.numbered
          ∙ ap (λ (p : Panel). p.number) (step_shown ws out i (step_leaves ws out i).answer _ _ (record { answered = refl; words = refl; outbox = refl }))
          ∙ unsound_shown ws _ _ e;
      taken = λ out packet number made ws' left h.
          h.numbered
          ∙ ap (λ (p : Panel). p.number) (take_shown ws out packet (take_leaves ws out packet).answer _ _ (record { answered = refl; words = refl; outbox = refl }))
          ∙ unsound_shown ws _ _ e;
      trayed = λ out votes places number made ws' left answers h.
          h.numbered
          ∙ ap (λ (p : Panel). p.number) (tray_shown ws out votes places (tray_leaves ws out votes places).answer _ _ _ (record { answered = refl; words = refl; outbox = refl; answers = refl }))
          ∙ unsound_shown ws _ _ e;
      certificate = λ buffer kind s b number written after h.
          h.numbered
          ∙ ap (λ (p : Panel). p.number) (certificate_shown ws buffer kind s b (certificate_on ws (length buffer) kind s b).answer _ (record { answered = refl; bytes = refl }))
          ∙ unsound_shown ws _ _ e;
      proof = λ buffer s b number written after h.
          h.numbered
          ∙ ap (λ (p : Panel). p.number) (proof_shown ws buffer s b (proof_on ws (length buffer) s b).answer _ (record { answered = refl; bytes = refl }))
          ∙ unsound_shown ws _ _ e;
      card = λ s number values h. h.numbered ∙ ap (λ (a : Result Tally Refusal). (card_panel a).number) (unsound_card ws s e);
      final = λ s number block h. h.numbered ∙ ap (λ (a : Result ℕ Refusal). (final_panel a).number) (unsound_final ws s e);
      armed = λ s number flag h. h.numbered ∙ ap (λ (a : Result Bool Refusal). (armed_panel a).number) (unsound_armed ws s e);
      announce = λ s b number may h. h.numbered ∙ ap (λ (a : Result Bool Refusal). (announce_panel a).number) (sym (asked_unsound ws s b e));
      split = λ bytes number first h. h.numbered ∙ ap (λ (a : Result ℕ Refusal). (split_panel a).number) (sym (split_unsound ws bytes e));
      votes = λ s n number values h. h.numbered ∙ ap (λ (a : Result Cell Refusal). (votes_panel a).number) (unsound_votes ws s n e);
      blocks = λ s number values h. h.numbered ∙ ap (λ (a : Result KeptBlocks Refusal). (blocks_panel a).number) (unsound_blocks ws s e);
      marks = λ s number values h. h.numbered ∙ ap (λ (a : Result SlotMarks Refusal). (marks_panel a).number) (unsound_marks ws s e);
      head = λ number values h. h.numbered ∙ ap (λ (a : Result RecordHead Refusal). (head_panel a).number) (head_unsound ws e);
      kept = λ s list number beside left h. sided ((face_certificates ws s list number beside left h).bad e).0;
      weights = λ s b number values h. h.numbered ∙ ap (λ (a : Result BlockWeights Refusal). (weights_panel a).number) (unsound_weights ws s b e);
      first = λ two list number beside left h. sided ((face_differ ws two list number beside left h).first e).0;
      second = λ one list number beside left t h. sided ((face_differ one ws list number beside left h).second t e).0;
      stands = λ list number beside left h. sided ((face_stands ws list number beside left h).bad e).0;
      vouches = λ two list number beside left h. sided ((face_vouched ws two list number beside left h).first e).0;
      vouched = λ one list number beside left t h. sided ((face_vouched one ws list number beside left h).second t e).0;
      parents = λ two list number beside left h. sided ((face_same_parents ws two list number beside left h).first e).0;
      beside = λ one list number beside left t h. sided ((face_same_parents one ws list number beside left h).second t e).0;
      packet = λ bytes list number beside left h. sided ((face_vouched_packet ws bytes list number beside left h).bad e).0;
    }
  where
    sided : {number beside side : ℕ} → shown_as number beside ≡ shown_as 17 side → (number ≡ 17) × (beside ≡ side)
    sided q = (ap (λ (p : Panel). p.number) q, heads (ap (λ (p : Panel). p.values) q))
      where
        heads : {x y : ℕ} → x ∷ [] ≡ y ∷ [] → x ≡ y
        heads r = cc

pub disagreeing_refused : DisagreeingRefused
disagreeing_refused ws d = unsound_refused ws (disagreeing_unsound ws d.slot d.low d.high d.other)

-- ---- refusals

pub refused_cards : RefusedCards
unfolding feed step_panel
refused_cards l i ne s =
    let x = refused_told (feed l i).answer ne in
    ap (λ (m : Ledger). (row_at m s).card) (fed_kept l i (verdict l i) x.0 x.1).0

pub face_refused_cards : FaceRefusedCards
face_refused_cards =
    record {
      stepped = λ ws out i number made ws' left h ne s.
          ap (λ (x : List ℕ). (row_at (ledger_of x) s).card) (face_step_refused ws out i number made ws' left h ne).1;
      taken = λ ws out packet number made ws' left h ne s.
          ap (λ (x : List ℕ). (row_at (ledger_of x) s).card) (face_take_refused ws out packet number made ws' left h ne).0;
      trayed = λ ws out votes places number made ws' left answers h ne s.
          ap (λ (x : List ℕ). (row_at (ledger_of x) s).card) (face_tray_refused ws out votes places number made ws' left answers h ne).2;
    }
