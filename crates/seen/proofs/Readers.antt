-- The words of a life are sound; there each reader answers of the ledger.
use Rattle.std.specs.Prelude.{Bool, Result, Err}
use mathlib.Core.Path.{◌≡◌, refl, ap, ◌∙◌}
use mathlib.Core.Bool.{true}
use mathlib.Core.List.{List, [], ◌∷◌}
use Prim.Native.Nat.{ℕ}
use lib.ListN.{length}
use Rattle.rulebook.specs.declared.Cell.{Cell}
use Rattle.rulebook.specs.declared.Refusal.{Refusal}
use Rattle.rulebook.specs.Weights.{slot_ok}
use Rattle.rulebook.specs.Ledger.{row_at}
use Rattle.rulebook.specs.Writers.{over}
use Rattle.rule_laws.proofs.ToolLaws.{by_test}
use Rattle.record.specs.Layout.{ledger_of}
use Rattle.soundness.specs.Sound.{sound_words}
use Rattle.readers.specs.Asked.{final_on, armed_on, blocks_on, marks_on, final_panel, armed_panel, votes_panel, blocks_panel, marks_panel, head_panel}
use Rattle.readers.specs.Weighed.{weights_panel}
use Rattle.readers.proofs.Ways.{slot_unsound, slot_none, slot_asked, votes_there, head_asked, weights_there}
use Rattle.inquest_lines.specs.Lent.{list_panel}
use Rattle.kept_lines.specs.Told.{certificates_told}
use Rattle.kept_lines.specs.Lent.{Listing, certificates_on}
use Rattle.kept_lines.proofs.Laws.{on_slot_lem, roomy}
use Rattle.answers.specs.Face.{FinalRead}
use Rattle.seen.specs.Seen.{Seen}
use Rattle.seen.specs.Readers.{ReadsTold, ReadersTell}
use Rattle.seen.proofs.Alive.{alive_sound}
use Rattle.readers.specs.declared.BlockWeights.{BlockWeights}
use Rattle.readers.specs.declared.KeptBlocks.{KeptBlocks}
use Rattle.readers.specs.declared.RecordHead.{RecordHead}
use Rattle.readers.specs.declared.SlotMarks.{SlotMarks}

-- The one value beside a number.
only : {v w : ℕ} {values : List ℕ} → v ∷ [] ≡ values → values ≡ w ∷ [] → v ≡ w
only a b = cc

-- What is read of sound words.
reads_told : (v : Seen) → sound_words v.words ≡ true → ReadsTold v
unfolding final_on armed_on blocks_on marks_on final_panel armed_panel votes_panel blocks_panel marks_panel head_panel weights_panel list_panel
reads_told v e =
    record {
      final = λ s number block h q.
          let r = slot_asked Err v.words s _ e q in
          (h.numbered ∙ ap (λ (a : Result ℕ Refusal). (final_panel a).number) r, only h.valued (ap (λ (a : Result ℕ Refusal). (final_panel a).values) r));
      armed = λ s number flag h q.
          let r = slot_asked Err v.words s _ e q in
          (h.numbered ∙ ap (λ (a : Result Bool Refusal). (armed_panel a).number) r, only h.valued (ap (λ (a : Result Bool Refusal). (armed_panel a).values) r));
      votes = λ s n number values h q t.
          let r = votes_there v.words s e q n t in
          (h.numbered ∙ ap (λ (a : Result Cell Refusal). (votes_panel a).number) r, h.valued ∙ ap (λ (a : Result Cell Refusal). (votes_panel a).values) r);
      blocks = λ s number values h q.
          let r = slot_asked Err v.words s _ e q in
          (h.numbered ∙ ap (λ (a : Result KeptBlocks Refusal). (blocks_panel a).number) r, h.valued ∙ ap (λ (a : Result KeptBlocks Refusal). (blocks_panel a).values) r);
      marks = λ s number values h q.
          let r = slot_asked Err v.words s _ e q in
          (h.numbered ∙ ap (λ (a : Result SlotMarks Refusal). (marks_panel a).number) r, h.valued ∙ ap (λ (a : Result SlotMarks Refusal). (marks_panel a).values) r);
      head = λ number values h.
          let r = head_asked v.words e in
          (h.numbered ∙ ap (λ (a : Result RecordHead Refusal). (head_panel a).number) r, h.valued ∙ ap (λ (a : Result RecordHead Refusal). (head_panel a).values) r);
      weights = λ s b number values h q t.
          let r = weights_there v.words s e q b t in
          (h.numbered ∙ ap (λ (a : Result BlockWeights Refusal). (weights_panel a).number) r, h.valued ∙ ap (λ (a : Result BlockWeights Refusal). (weights_panel a).values) r);
      certificates = λ s list number beside left h q room.
          let r = on_slot_lem v.words s (length list) e q ∙ roomy (ledger_of v.words).count list (certificates_told (ledger_of v.words) s) room in
          (h.numbered ∙ ap (λ (t : Listing). (list_panel t.answer).number) r, only h.counted (ap (λ (t : Listing). (list_panel t.answer).values) r), h.lines ∙ ap (λ (t : Listing). over t.words list) r);
    }

-- A block that is read of any words is the one that the slot's row has.
pub final_told : (ws : List ℕ) (s number block : ℕ) → FinalRead (final_on ws s) number block → ¬ (block ≡ 0) → block ≡ (row_at (ledger_of ws) s).final
unfolding final_on final_panel
final_told ws s number block h ne =
    by_test (sound_words ws)
    (λ e. by_test (slot_ok s)
    (λ q. read (slot_asked Err ws s _ e q) refl)
    (λ q. absurd (ne (read (slot_none Err ws s _ e q) refl))))
    (λ e. absurd (ne (read (slot_unsound Err ws s _ e) refl)))
  where
    read : {a : Result ℕ Refusal} {b : ℕ} → final_on ws s ≡ a → (final_panel a).values ≡ b ∷ [] → block ≡ b
    read r v = only h.valued (ap (λ (x : Result ℕ Refusal). (final_panel x).values) r ∙ v)

pub readers_tell : ReadersTell
readers_tell stakes genesis v a = reads_told v (alive_sound a)
