-- The writers of the face. Assumes nothing.
use Rattle.std.specs.Prelude.{Result, Ok, Err}
use mathlib.Core.Path.{◌≡◌, refl, sym, ap, ◌∙◌}
use mathlib.Core.Bool.{Bool}
use mathlib.Core.List.{List, [], ◌∷◌}
use Prim.Native.Nat.{ℕ, ◌-◌}
use native.Mathlib.Omega.{arith}
use lib.ListN.{length, get_or, take}
use Rattle.rulebook.specs.declared.Accepted.{Accepted}
use Rattle.rulebook.specs.declared.Refusal.{Refusal}
use Rattle.rulebook.specs.declared.Refusal.TheVariants as refusal
use Rattle.rulebook.specs.declared.Vote.{Vote}
use Rattle.rulebook.specs.declared.VoteKind.{VoteKind}
use Rattle.rulebook.specs.declared.VoteKind.TheVariants as vote
use Rattle.rulebook.specs.Ledger.{Ledger, table_of}
use Rattle.rulebook.specs.PaperNumbers.{refusal_number, vote_kind, vote_number, write_panel, read_panel, check_number, check_values, check_missing}
use Rattle.rulebook.specs.Tools.{choose}
use Rattle.rulebook.specs.Checker.{check_certificate, check_proof}
use Rattle.rulebook.specs.Messages.{read_vote, write_vote}
use Rattle.rulebook.specs.Writers as written
use Rattle.rulebook.specs.Writers.{Writes, write_certificate, write_proof}
use Rattle.rule_laws.proofs.ToolLaws.{given_on}
use Rattle.rule_laws.proofs.PanelLaws.{refusal_numbered, done_told}
use Rattle.packets.specs.Promises.{parts, accepted_for, proof_kind}
use Rattle.packets.proofs.Back as back
use Rattle.packets.proofs.Table.{table_of_record}
use Rattle.messages.proofs.Promises.{written_back, one_spelling}
use Rattle.record.specs.Layout.{ledger_of}
use Rattle.soundness.proofs.Laws.{sound_formed}
use Rattle.writers.specs.Writing.{unsound, kind_on, certificate_on, proof_on}
use Rattle.readback.proofs.Words.{packet_is, certificate_sound, certificate_length, certificate_accepted, proof_sound, proof_length, proof_accepted}
use Rattle.answers.specs.Face.{Checked, MessageRead, accepted_values, vote_values}
use Rattle.promises.specs.Exactly.{WrittenExactly}
use Rattle.promises.proofs.Held.{certificate_exactly, proof_exactly}
use Rattle.exactly.specs.Written.{NumberedExactly, FaceCertificateExactly, FaceProofExactly, FaceCertificateBack, FaceProofBack, FaceVoteBack, FaceOneSpelling}

-- ---- numbers

written_number : (a : Result ℕ Refusal) (n : ℕ) → a ≡ Ok n → (write_panel a).number ≡ 0
unfolding write_panel
written_number a n e = rw e

missing_number : (a : Result ℕ Refusal) → a ≡ Err refusal.NotHeld → (write_panel a).number ≡ 18
unfolding write_panel refusal_number
missing_number a e = rw e

-- 18 is one refusal's number.
eighteen : (r : Refusal) → refusal_number r ≡ 18 → r ≡ refusal.NotHeld
unfolding refusal_number
eighteen refusal.BadSizes e = absurd (omega arith)
eighteen refusal.BadNode e = absurd (omega arith)
eighteen refusal.BadSlot e = absurd (omega arith)
eighteen refusal.BadKind e = absurd (omega arith)
eighteen refusal.BadBlock e = absurd (omega arith)
eighteen refusal.OwnName e = absurd (omega arith)
eighteen refusal.AlreadyKept e = absurd (omega arith)
eighteen refusal.OtherStands e = absurd (omega arith)
eighteen refusal.NoRoom e = absurd (omega arith)
eighteen refusal.NotArmed e = absurd (omega arith)
eighteen refusal.BadParent e = absurd (omega arith)
eighteen refusal.BadLength e = absurd (omega arith)
eighteen refusal.BadNumber e = absurd (omega arith)
eighteen refusal.BadSigners e = absurd (omega arith)
eighteen (refusal.TooLight missing) e = absurd (omega arith)
eighteen refusal.NotAProof e = absurd (omega arith)
eighteen refusal.BadRecord e = absurd (omega arith)
eighteen refusal.NotHeld e = refl

number_missing : (a : Result ℕ Refusal) → (write_panel a).number ≡ 18 → a ≡ Err refusal.NotHeld
unfolding write_panel
number_missing (Ok n) e = absurd (omega arith)
number_missing (Err r) e = ap Err (eighteen r e)

-- ---- exactly

numbered : {fits : Type 0} {there : Bool} (a : Result ℕ Refusal) (number : ℕ) → number ≡ (write_panel a).number → WrittenExactly fits there a → NumberedExactly fits there number
unfolding write_panel
numbered a number e w =
    record {
      written = λ f t. let x = w.written f t in e ∙ written_number a x.0 x.1;
      only_then = λ z. let x = done_told a (sym e ∙ z) in w.only_then x.0 x.1;
      missing = λ f t. e ∙ missing_number a (w.missing f t);
      only_missing = λ z. w.only_missing (number_missing a (sym e ∙ z));
    }

pub face_certificate_exactly : FaceCertificateExactly
face_certificate_exactly ws buffer kind s b number count after h =
    let w : written.Wrote = certificate_on ws (length buffer) kind s b in
    numbered w.answer number h.numbered (certificate_exactly ws buffer kind s b w.answer after (record { answered = refl; bytes = h.bytes }))

pub face_proof_exactly : FaceProofExactly
face_proof_exactly ws buffer s b number count after h =
    let w : written.Wrote = proof_on ws (length buffer) s b in
    numbered w.answer number h.numbered (proof_exactly ws buffer s b w.answer after (record { answered = refl; bytes = h.bytes }))

-- ---- read back

-- What is written is counted.
counted : (a : Result ℕ Refusal) (n count : ℕ) → a ≡ Ok n → count ∷ [] ≡ (write_panel a).values → n ≡ count
unfolding write_panel
counted a n count e f = sym (ap (λ (xs : List ℕ). get_or xs 0 0) (f ∙ ap (λ (x : Result ℕ Refusal). (write_panel x).values) e))

-- The counted bytes are those that were written.
front : (bytes buffer after : List ℕ) (count : ℕ) → after ≡ written.over bytes buffer → count ≡ length bytes → take count after ≡ bytes
front bytes buffer after count e f =
    let z : count - 0 ≡ count = omega arith in ap (λ (m : ℕ). take m after) (sym z) ∙ packet_is bytes buffer after count e f

accepted_told : {n : ℕ} (answer : Result Accepted Refusal) (told : Accepted) → answer ≡ Ok told → (number : ℕ) (values : List ℕ) (missing : ℕ) → Checked n answer number values missing
    → (number ≡ 0) × (values ≡ accepted_values n told) × (missing ≡ 0)
unfolding check_number check_values check_missing
accepted_told {n} answer told e number values missing h =
    (h.numbered ∙ ap check_number e, h.valued ∙ ap (check_values n) e, h.lacked ∙ ap check_missing e)

pub face_certificate_back : FaceCertificateBack
unfolding certificate_on write_panel
face_certificate_back ws buffer kind s b count after small h =
    let l : Ledger = ledger_of ws in
    let k = kind_on ws kind in
    let room : ℕ = length buffer in
    let w : written.Wrote = certificate_on ws room kind s b in
    let x = done_told w.answer (sym h.numbered) in
    let so = certificate_sound ws room kind s b x.0 x.1 in
    let on : w ≡ write_certificate l room k s b = given_on _ unsound (λ _. write_certificate l room k s b) so in
    let n : count ≡ length w.bytes = sym (counted w.answer x.0 count x.1 h.counted) ∙ certificate_length ws room kind s b x.0 x.1 in
    let p : take count after ≡ w.bytes = front w.bytes buffer after count h.bytes n in
    record {
      spelled = ap parts (p ∙ ap (λ (y : written.Wrote). y.bytes) on)
          ∙ (back.certificate_back l (table_of l) (table_of_record l (sound_formed ws so)) room k s b x.0 small (ap (λ (y : written.Wrote). y.answer) (sym on) ∙ x.1)).0;
      checked = accepted_told (check_certificate (table_of l) (take count after)) (accepted_for l k s b)
          (ap (check_certificate (table_of l)) p ∙ certificate_accepted ws room kind s b x.0 x.1 small);
    }

pub face_proof_back : FaceProofBack
unfolding proof_on write_panel
face_proof_back ws buffer s b count after small h =
    let l : Ledger = ledger_of ws in
    let room : ℕ = length buffer in
    let w : written.Wrote = proof_on ws room s b in
    let x = done_told w.answer (sym h.numbered) in
    let so = proof_sound ws room s b x.0 x.1 in
    let on : w ≡ write_proof l room s b = given_on _ unsound (λ _. write_proof l room s b) so in
    let n : count ≡ length w.bytes = sym (counted w.answer x.0 count x.1 h.counted) ∙ proof_length ws room s b x.0 x.1 in
    let p : take count after ≡ w.bytes = front w.bytes buffer after count h.bytes n in
    record {
      spelled = ap parts (p ∙ ap (λ (y : written.Wrote). y.bytes) on)
          ∙ (back.proof_back l (table_of l) (table_of_record l (sound_formed ws so)) room s b x.0 small (ap (λ (y : written.Wrote). y.answer) (sym on) ∙ x.1)).0;
      checked = accepted_told (check_proof (table_of l) (take count after)) (accepted_for l (proof_kind l s b) s b)
          (ap (check_proof (table_of l)) p ∙ proof_accepted ws room s b x.0 x.1 small);
    }

-- ---- vote messages

pub face_vote_back : FaceVoteBack
unfolding read_panel write_panel
face_vote_back nodes v buffer count after number values small h r =
    let w : written.Wrote = write_vote nodes (length buffer) v in
    let x = done_told w.answer (sym h.numbered) in
    let n = counted w.answer x.0 count x.1 h.counted in
    let e : read_vote nodes (take count after) ≡ Ok v =
    ap (λ (m : ℕ). read_vote nodes (take m after)) (sym n) ∙ written_back nodes x.0 v buffer after small (record { answered = sym x.1; bytes = h.bytes }) in
    (r.numbered ∙ ap (λ (a : Result Vote Refusal). (read_panel a).number) e, r.valued ∙ ap (λ (a : Result Vote Refusal). (read_panel a).values) e)

kind_back : (k : VoteKind) → k ≡ vote_kind (vote_number k)
unfolding vote_kind vote_number choose
kind_back vote.Notar = refl
kind_back vote.NotarFallback = refl
kind_back vote.Skip = refl
kind_back vote.SkipFallback = refl
kind_back vote.Final = refl
kind_back vote.Other = refl

-- The vote of four numbers.
abbrev vote_in : List ℕ → Vote
vote_in xs = record { kind = vote_kind (get_or xs 0 0); node = record { 0 = get_or xs 1 0 }; slot = record { 0 = get_or xs 2 0 }; block = get_or xs 3 0 }

vote_in_lem : (v : Vote) → v ≡ vote_in (vote_values v)
vote_in_lem v = λ i. record { kind = kind_back v.kind i; node = v.node; slot = v.slot; block = v.block }

-- A message that is answered 0 is that vote.
read_done : (a : Result Vote Refusal) (values : List ℕ) → MessageRead a 0 values → a ≡ Ok (vote_in values)
unfolding read_panel
read_done (Ok v) values h = ap Ok (vote_in_lem v ∙ ap vote_in (sym h.valued))
read_done (Err r) values h = absurd (omega (arith, refusal_numbered r, h.numbered))

pub face_one_spelling : FaceOneSpelling
face_one_spelling nodes others p q values hp hq a b =
    one_spelling nodes others (vote_in values) p q hp hq (read_done (read_vote nodes p) values a) (read_done (read_vote others q) values b)
