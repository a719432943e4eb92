-- Reading back on a node's words and lent bytes. Assumes nothing.
use Rattle.std.specs.Prelude.{⊤, Result, Ok, Err}
use mathlib.Core.Path.{◌≡◌, sym, ap, ◌∙◌}
use mathlib.Core.Bool.{true}
use mathlib.Core.List.{List}
use Prim.Native.Nat.{ℕ, ◌-◌, ◌^◌, ◌≤◌, ◌<◌}
use native.Mathlib.Omega.{arith}
use lib.ListN.{length, take, drop, length-append}
use lib.Seq.{take-append_seam}
use Rattle.rulebook.specs.declared.Accepted.{Accepted}
use Rattle.rulebook.specs.declared.CertificateKind.{CertificateKind}
use Rattle.rulebook.specs.declared.Refusal.{Refusal}
use Rattle.rulebook.specs.Packets.{certificate_bytes}
use Rattle.rulebook.specs.Checker.{check_certificate, check_proof}
use Rattle.rulebook.specs.Writers.{Wrote, certificate_for, wrote_on, certificate_verdict, write_certificate, proof_verdict, proof_bytes, write_proof, over, Writes}
use Rattle.rule_laws.proofs.ToolLaws.{given_on, by_test}
use Rattle.record.specs.Layout.{ledger_of}
use Rattle.soundness.specs.Sound.{sound_words}
use Rattle.soundness.proofs.Laws.{sound_formed}
use Rattle.writers.specs.Writing.{unsound, kind_on, certificate_on, proof_on}
use Rattle.writers.proofs.Laid.{certificate_unsound, proof_unsound}
use Rattle.packets.specs.Promises.{accepted_for, proof_kind}
use Rattle.packets.proofs.Back.{certificate_back as packet-back, proof_back as packets-back}
use Rattle.packets.proofs.Table.{table_of_record}
use Rattle.readback.specs.ReadBack.{read_as, ReadsBack}

-- ---- a writer's refusal, and the bytes that it wrote

-- Words that are not sound are not written of.
not_unsound : {X : Type 0} (wrote : Wrote) (n : ℕ) → wrote ≡ unsound → wrote.answer ≡ Ok n → X
unfolding unsound
not_unsound wrote n e f = absurd cc

-- As many bytes were written as are answered.
wrote_length : (v : Result ⊤ Refusal) (bytes : List ℕ) (n : ℕ) → (wrote_on v bytes).answer ≡ Ok n → n ≡ length (wrote_on v bytes).bytes
unfolding wrote_on
wrote_length (Ok tt) bytes n e = cc
wrote_length (Err r) bytes n e = absurd cc

-- The bytes that a writer laid are a packet of their own.
pub packet_is : (bytes buffer after : List ℕ) (n : ℕ) → after ≡ over bytes buffer → n ≡ length bytes → take (n - 0) after ≡ bytes
unfolding over
packet_is bytes buffer after n e f =
    let z : n - 0 ≡ length bytes = omega arith in rw (z, e) (take-append_seam bytes (drop (length bytes) buffer))

-- And they end inside the buffer.
pub packet_inside : (bytes buffer after : List ℕ) (n : ℕ) → after ≡ over bytes buffer → n ≡ length bytes → n ≤ length after
unfolding over
packet_inside bytes buffer after n e f = omega (arith, ap length e, length-append bytes (drop (length bytes) buffer))

-- A refusal is handed on.
pub refused_back : {wrote : Wrote} (told : Accepted) {buffer after : List ℕ} {a : Result ℕ Refusal} (r : Refusal) → Writes wrote buffer a after
    → a ≡ Err r → ReadsBack wrote told buffer (Err r) after
unfolding read_as
refused_back {wrote} told r w e =
    let f : wrote.answer ≡ Err r = sym w.answered ∙ e in
    record { answered = rw f; bytes = w.bytes }

-- An acceptance is the true one.
accepted_back : {wrote : Wrote} (told : Accepted) {buffer after : List ℕ} {a : Result ℕ Refusal} {r : Result Accepted Refusal} (n : ℕ) → Writes wrote buffer a after
    → a ≡ Ok n → r ≡ Ok told → ReadsBack wrote told buffer r after
unfolding read_as
accepted_back {wrote} told n w e g =
    let f : wrote.answer ≡ Ok n = sym w.answered ∙ e in
    record { answered = g ∙ rw f; bytes = w.bytes }

-- ---- certificates

module _ (ws : List ℕ) (room kind s b n : ℕ) (e : (certificate_on ws room kind s b).answer ≡ Ok n) where
  abbrev k : CertificateKind
  k = kind_on ws kind

  pub certificate_sound : sound_words ws ≡ true
  certificate_sound =
      by_test (sound_words ws) (λ t. t) (λ t. not_unsound (certificate_on ws room kind s b) n (certificate_unsound ws room kind s b t) e)

  on_is : certificate_on ws room kind s b ≡ write_certificate (ledger_of ws) room k s b
  unfolding certificate_on
  on_is = given_on (sound_words ws) unsound (λ _. write_certificate (ledger_of ws) room k s b) certificate_sound

  answer_is : (write_certificate (ledger_of ws) room k s b).answer ≡ Ok n
  answer_is = ap (λ (w : Wrote). w.answer) (sym on_is) ∙ e

  pub certificate_length : n ≡ length (certificate_on ws room kind s b).bytes
  unfolding write_certificate
  certificate_length =
      wrote_length (certificate_verdict (ledger_of ws) room k s b) (certificate_bytes (certificate_for (ledger_of ws) k s b)) n answer_is
      ∙ ap (λ (w : Wrote). length w.bytes) (sym on_is)

  pub certificate_accepted : b < 2 ^ 64
      → check_certificate (take (ledger_of ws).count (ledger_of ws).stakes) (certificate_on ws room kind s b).bytes ≡ Ok (accepted_for (ledger_of ws) k s b)
  certificate_accepted h =
      ap (λ (w : Wrote). check_certificate (take (ledger_of ws).count (ledger_of ws).stakes) w.bytes) on_is
      ∙ (packet-back (ledger_of ws) (take (ledger_of ws).count (ledger_of ws).stakes)
      (table_of_record (ledger_of ws) (sound_formed ws certificate_sound)) room k s b n h answer_is).1

-- It ends inside the buffer.
pub certificate_inside : (ws buffer : List ℕ) (kind s b n : ℕ) {after : List ℕ} {a : Result ℕ Refusal}
    → Writes (certificate_on ws (length buffer) kind s b) buffer a after → a ≡ Ok n → n ≤ length after
certificate_inside ws buffer kind s b n {after} w e =
    packet_inside (certificate_on ws (length buffer) kind s b).bytes buffer after n w.bytes (certificate_length ws (length buffer) kind s b n (sym w.answered ∙ e))

-- What was written is read back.
pub certificate_back : (ws buffer : List ℕ) (kind s b n : ℕ) {after stakes packet : List ℕ} {a : Result ℕ Refusal} {r : Result Accepted Refusal} → b < 2 ^ 64
    → Writes (certificate_on ws (length buffer) kind s b) buffer a after → a ≡ Ok n → stakes ≡ take (ledger_of ws).count (ledger_of ws).stakes → packet ≡ take (n - 0) after
    → r ≡ check_certificate stakes packet → ReadsBack (certificate_on ws (length buffer) kind s b) (accepted_for (ledger_of ws) (kind_on ws kind) s b) buffer r after
certificate_back ws buffer kind s b n {after} h w e st pk g =
    let f = sym w.answered ∙ e in
    let p = pk ∙ packet_is (certificate_on ws (length buffer) kind s b).bytes buffer after n w.bytes (certificate_length ws (length buffer) kind s b n f) in
    accepted_back (accepted_for (ledger_of ws) (kind_on ws kind) s b) n w e (g ∙ (λ i. check_certificate (st i) (p i)) ∙ certificate_accepted ws (length buffer) kind s b n f h)

-- ---- proofs

module _ (ws : List ℕ) (room s b n : ℕ) (e : (proof_on ws room s b).answer ≡ Ok n) where
  pub proof_sound : sound_words ws ≡ true
  proof_sound = by_test (sound_words ws) (λ t. t) (λ t. not_unsound (proof_on ws room s b) n (proof_unsound ws room s b t) e)

  proof_on_is : proof_on ws room s b ≡ write_proof (ledger_of ws) room s b
  unfolding proof_on
  proof_on_is = given_on (sound_words ws) unsound (λ _. write_proof (ledger_of ws) room s b) proof_sound

  proof_answer_is : (write_proof (ledger_of ws) room s b).answer ≡ Ok n
  proof_answer_is = ap (λ (w : Wrote). w.answer) (sym proof_on_is) ∙ e

  pub proof_length : n ≡ length (proof_on ws room s b).bytes
  unfolding write_proof
  proof_length =
      wrote_length (proof_verdict (ledger_of ws) room s b) (proof_bytes (ledger_of ws) s b) n proof_answer_is
      ∙ ap (λ (w : Wrote). length w.bytes) (sym proof_on_is)

  pub proof_accepted : b < 2 ^ 64
      → check_proof (take (ledger_of ws).count (ledger_of ws).stakes) (proof_on ws room s b).bytes ≡ Ok (accepted_for (ledger_of ws) (proof_kind (ledger_of ws) s b) s b)
  proof_accepted h =
      ap (λ (w : Wrote). check_proof (take (ledger_of ws).count (ledger_of ws).stakes) w.bytes) proof_on_is
      ∙ (packets-back (ledger_of ws) (take (ledger_of ws).count (ledger_of ws).stakes)
      (table_of_record (ledger_of ws) (sound_formed ws proof_sound)) room s b n h proof_answer_is).1

-- It ends inside the buffer.
pub proof_inside : (ws buffer : List ℕ) (s b n : ℕ) {after : List ℕ} {a : Result ℕ Refusal}
    → Writes (proof_on ws (length buffer) s b) buffer a after → a ≡ Ok n → n ≤ length after
proof_inside ws buffer s b n {after} w e =
    packet_inside (proof_on ws (length buffer) s b).bytes buffer after n w.bytes (proof_length ws (length buffer) s b n (sym w.answered ∙ e))

-- What was written is read back.
pub proof_back : (ws buffer : List ℕ) (s b n : ℕ) {after stakes packet : List ℕ} {a : Result ℕ Refusal} {r : Result Accepted Refusal} → b < 2 ^ 64
    → Writes (proof_on ws (length buffer) s b) buffer a after → a ≡ Ok n → stakes ≡ take (ledger_of ws).count (ledger_of ws).stakes → packet ≡ take (n - 0) after
    → r ≡ check_proof stakes packet → ReadsBack (proof_on ws (length buffer) s b) (accepted_for (ledger_of ws) (proof_kind (ledger_of ws) s b) s b) buffer r after
proof_back ws buffer s b n {after} h w e st pk g =
    let f = sym w.answered ∙ e in
    let p = pk ∙ packet_is (proof_on ws (length buffer) s b).bytes buffer after n w.bytes (proof_length ws (length buffer) s b n f) in
    accepted_back (accepted_for (ledger_of ws) (proof_kind (ledger_of ws) s b) s b) n w e (g ∙ (λ i. check_proof (st i) (p i)) ∙ proof_accepted ws (length buffer) s b n f h)

-- The contract leaves nothing open: two results that it allows are equal.
pub reads_back_one : (wrote : Wrote) (told : Accepted) (buffer : List ℕ) (a b : Result Accepted Refusal) (x y : List ℕ) → ReadsBack wrote told buffer a x
    → ReadsBack wrote told buffer b y → (a ≡ b) × (x ≡ y)
reads_back_one wrote told buffer a b x y p q = (p.answered ∙ sym q.answered, p.bytes ∙ sym q.bytes)
