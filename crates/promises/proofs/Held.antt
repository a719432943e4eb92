-- What is asked for is written exactly when it is held. Assumes nothing.
use Rattle.std.specs.Prelude.{⊤, Result, Ok, Err}
use mathlib.Core.Path.{◌≡◌, refl, sym, ap, ◌∙◌}
use mathlib.Core.Bool.{Bool, true, false}
use mathlib.Core.List.{List}
use Prim.Native.Nat.{ℕ}
use lib.ListN.{length}
use borrow.Author.Tests.{eq-eqb, ltb-false, not-true, not-false}
use Rattle.rulebook.specs.declared.CertificateKind.{CertificateKind}
use Rattle.rulebook.specs.declared.Refusal.{Refusal}
use Rattle.rulebook.specs.declared.Refusal.TheVariants as refusal
use Rattle.rulebook.specs.Weights.{slot_ok}
use Rattle.rulebook.specs.Ledger.{Ledger, none}
use Rattle.rulebook.specs.Pool.{held}
use Rattle.rulebook.specs.Rules.{is_final}
use Rattle.rulebook.specs.Inputs.{refuse_if}
use Rattle.rulebook.specs.Packets.{certificate_bytes}
use Rattle.rulebook.specs.Writers.{Wrote, certificate_for, certificate_room, proof_room, wrote_on, certificate_verdict, write_certificate, proof_verdict, proof_bytes, write_proof}
use Rattle.rule_laws.proofs.ToolLaws.{given_on, given_off, by_test, true_not_false}
use Rattle.record.specs.Layout.{ledger_of}
use Rattle.soundness.specs.Sound.{sound_words}
use Rattle.writers.specs.Writing.{unsound, kind_on, certificate_on, proof_on}
use Rattle.writers.proofs.Verdicts.{certificate_held, certificate_passed, certificate_fine, proof_final, proof_passed, proof_fine}
use Rattle.promises.specs.Exactly.{CertificateAsked, ProofAsked, WrittenExactly, CertificateExactly, ProofExactly}

-- ---- a verdict and its answer

fine_written : (v : Result ⊤ Refusal) (bytes : List ℕ) → Ok tt ≡ v → (wrote_on v bytes).answer ≡ Ok (length bytes)
unfolding wrote_on
fine_written v bytes e = rw (← e)

held_not : (v : Result ⊤ Refusal) (bytes : List ℕ) → Err refusal.NotHeld ≡ v → (wrote_on v bytes).answer ≡ Err refusal.NotHeld
unfolding wrote_on
held_not v bytes e = rw (← e)

written_fine : (v : Result ⊤ Refusal) (bytes : List ℕ) (n : ℕ) → (wrote_on v bytes).answer ≡ Ok n → v ≡ Ok tt
unfolding wrote_on
written_fine (Ok tt) bytes n e = refl
written_fine (Err r) bytes n e = absurd cc

not_held : (v : Result ⊤ Refusal) (bytes : List ℕ) → (wrote_on v bytes).answer ≡ Err refusal.NotHeld → v ≡ Err refusal.NotHeld
unfolding wrote_on
not_held (Ok tt) bytes e = absurd cc
not_held (Err r) bytes e = cc

-- 17 is neither.
unsound_written : {X : Type 0} (n : ℕ) → unsound.answer ≡ Ok n → X
unfolding unsound
unsound_written n e = absurd cc

unsound_held : {X : Type 0} → unsound.answer ≡ Err refusal.NotHeld → X
unfolding unsound
unsound_held e = absurd cc

-- 18 was given by the last test, so the others passed.
later : (t : Bool) (r : Refusal) (v : Result ⊤ Refusal) → ¬ (r ≡ refusal.NotHeld) → refuse_if t r v ≡ Err refusal.NotHeld → (t ≡ false) × (v ≡ Err refusal.NotHeld)
unfolding refuse_if
later true r v ne e = let q : r ≡ refusal.NotHeld = cc in absurd (ne q)
later false r v ne e = (refl, e)

last : (t : Bool) → refuse_if t refusal.NotHeld (Ok tt) ≡ Err refusal.NotHeld → t ≡ true
unfolding refuse_if
last true e = refl
last false e = absurd cc

other_room : ¬ (refusal.NoRoom ≡ refusal.NotHeld)
other_room e = absurd cc

other_kind : ¬ (refusal.BadKind ≡ refusal.NotHeld)
other_kind e = absurd cc

other_slot : ¬ (refusal.BadSlot ≡ refusal.NotHeld)
other_slot e = absurd cc

other_block : ¬ (refusal.BadBlock ≡ refusal.NotHeld)
other_block e = absurd cc

-- ---- either writer: 17, then a verdict that is fine exactly when the question fits and what is asked for is there, and 18 exactly when
-- the question fits and it is not

module _ (ws bytes : List ℕ) (w : Wrote) (v : Result ⊤ Refusal) (fits : Type 0) (there : Bool) (on-sound : sound_words ws ≡ true → w ≡ wrote_on v bytes)
    (on_unsound : sound_words ws ≡ false → w ≡ unsound) (sound : fits → sound_words ws ≡ true) (passed : fits → there ≡ true → Ok tt ≡ v)
    (fine : sound_words ws ≡ true → v ≡ Ok tt → fits × (there ≡ true)) (refused : fits → there ≡ false → Err refusal.NotHeld ≡ v)
    (absent : sound_words ws ≡ true → v ≡ Err refusal.NotHeld → fits × (there ≡ false)) where
  exactly : (answer : Result ℕ Refusal) → answer ≡ w.answer → WrittenExactly fits there answer
  exactly answer h =
      let says : sound_words ws ≡ true → answer ≡ (wrote_on v bytes).answer = λ e. h ∙ ap (λ (x : Wrote). x.answer) (on-sound e) in
      let says_17 : sound_words ws ≡ false → answer ≡ unsound.answer = λ e. h ∙ ap (λ (x : Wrote). x.answer) (on_unsound e) in
      record {
        written = λ a t. (length bytes, says (sound a) ∙ fine_written v bytes (passed a t));
        only_then = λ n e.
            by_test (sound_words ws) (λ so. fine so (written_fine v bytes n (sym (says so) ∙ e))) (λ so. unsound_written n (sym (says_17 so) ∙ e));
        missing = λ a t. says (sound a) ∙ held_not v bytes (refused a t);
        only_missing = λ e.
            by_test (sound_words ws) (λ so. absent so (not_held v bytes (sym (says so) ∙ e))) (λ so. unsound_held (sym (says_17 so) ∙ e));
      }

-- ---- a certificate

module _ (ws buffer : List ℕ) (k : CertificateKind) (s b : ℕ) (so : sound_words ws ≡ true) where
  certificate_there : certificate_verdict (ledger_of ws) (length buffer) k s b ≡ Ok tt → CertificateAsked ws buffer k s b × (held (ledger_of ws) k s b ≡ true)
  certificate_there e =
      let f = certificate_fine (ledger_of ws) (length buffer) k s b e in
      (record { sound = so; room = f.room; kind = f.kind; slot = f.slot; block = f.block }, f.there)

  certificate_absent : certificate_verdict (ledger_of ws) (length buffer) k s b ≡ Err refusal.NotHeld
      → CertificateAsked ws buffer k s b × (held (ledger_of ws) k s b ≡ false)
  unfolding certificate_verdict
  certificate_absent e =
      let p = later _ _ _ other_room e in
      let q = later _ _ _ other_kind p.1 in
      let r = later _ _ _ other_slot q.1 in
      let t = later _ _ _ other_block r.1 in (
        record {
          sound = so;
          room = ltb-false (length buffer) (certificate_room (ledger_of ws).count) p.0;
          kind = q.0;
          slot = not-false (slot_ok s) r.0;
          block = t.0;
        },
        not-true (held (ledger_of ws) k s b) (last _ t.1),
      )

pub certificate_exactly : CertificateExactly
unfolding certificate_on write_certificate
certificate_exactly ws buffer kind s b answer after h =
    let l : Ledger = ledger_of ws in
    let k = kind_on ws kind in
    let n : ℕ = length buffer in
    exactly ws (certificate_bytes (certificate_for l k s b)) (certificate_on ws n kind s b) (certificate_verdict l n k s b) (CertificateAsked ws buffer k s b)
    (held l k s b) (λ e. given_on _ _ _ e) (λ e. given_off _ _ _ e) (λ a. a.sound)
    (λ a t. certificate_passed l n k s b _ refl a.room a.kind a.slot a.block t) (λ so e. certificate_there ws buffer k s b so e)
    (λ a t. certificate_held l n k s b _ refl a.room a.kind a.slot a.block t) (λ so e. certificate_absent ws buffer k s b so e) answer h.answered

-- ---- a proof

module _ (ws buffer : List ℕ) (s b : ℕ) (so : sound_words ws ≡ true) where
  proof_there : proof_verdict (ledger_of ws) (length buffer) s b ≡ Ok tt → ProofAsked ws buffer s b × (is_final (ledger_of ws) s b ≡ true)
  proof_there e =
      let f = proof_fine (ledger_of ws) (length buffer) s b e in
      (record { sound = so; room = f.room; slot = f.slot; block = f.block }, f.final)

  proof_absent : proof_verdict (ledger_of ws) (length buffer) s b ≡ Err refusal.NotHeld → ProofAsked ws buffer s b × (is_final (ledger_of ws) s b ≡ false)
  unfolding proof_verdict
  proof_absent e =
      let p = later _ _ _ other_room e in
      let q = later _ _ _ other_slot p.1 in
      let r = later _ _ _ other_block q.1 in (
        record { sound = so; room = ltb-false (length buffer) (proof_room (ledger_of ws).count) p.0; slot = not-false (slot_ok s) q.0; block = r.0 },
        not-true (is_final (ledger_of ws) s b) (last _ r.1),
      )

-- A block that there is.
some_block_lem : (b : ℕ) → none b ≡ false → b ≡ 0 → ⊥
some_block_lem b t e = true_not_false (none b) (eq-eqb b 0 e) t

pub proof_exactly : ProofExactly
unfolding proof_on write_proof
proof_exactly ws buffer s b answer after h =
    let l : Ledger = ledger_of ws in
    let n : ℕ = length buffer in
    exactly ws (proof_bytes l s b) (proof_on ws n s b) (proof_verdict l n s b) (ProofAsked ws buffer s b) (is_final l s b) (λ e. given_on _ _ _ e)
    (λ e. given_off _ _ _ e) (λ a. a.sound) (λ a t. proof_passed l n s b _ refl a.room a.slot (some_block_lem b a.block) t)
    (λ so e. proof_there ws buffer s b so e) (λ a t. proof_final l n s b _ refl a.room a.slot (some_block_lem b a.block) t)
    (λ so e. proof_absent ws buffer s b so e) answer h.answered
