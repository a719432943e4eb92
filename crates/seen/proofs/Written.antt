-- The words of a life are sound and mean the rule book's ledger, so what is written of them is what the rule book's writers write.
use Rattle.std.specs.Prelude.{Result, Ok}
use mathlib.Core.Path.{◌≡◌, refl, sym, ap, ◌∙◌, subst}
use mathlib.Core.Bool.{Bool, true, false, not}
use mathlib.Core.List.{List}
use mathlib.Core.Logic.{◌⊎◌, inl, inr}
use Prim.Native.Nat.{ℕ, ◌-◌, ◌<◌, ◌^◌}
use native.Mathlib.Omega.{arith}
use lib.Dec.{T}
use lib.ListN.{length, take}
use Rattle.rulebook.specs.declared.Accepted.{Accepted}
use Rattle.rulebook.specs.declared.Refusal.{Refusal}
use Rattle.rulebook.specs.declared.Refusal.TheVariants as refusal
use Rattle.rulebook.specs.Certificates.{Certificate}
use Rattle.rulebook.specs.PaperNumbers.{refusal_number, step_panel, kind_in, number_in}
use Rattle.rulebook.specs.Ledger.{Ledger, fresh, table_of, certificates_at}
use Rattle.rulebook.specs.Pool.{some_kept}
use Rattle.rulebook.specs.Inputs.{refuse_if, Fed, fed_with, refused_with}
use Rattle.rulebook.specs.Checker.{is_other_kind, check_certificate, check_proof}
use Rattle.rulebook.specs.Taking.{has_room, is_repeat, kept_verdict, taken_on, taken, take_packet, Arrival}
use Rattle.rulebook.specs.WellFormed.{take_certificate}
use Rattle.rulebook.specs.Writers as writer
use Rattle.rulebook.specs.Writers.{certificate_verdict, write_certificate, write_proof, Writes}
use Rattle.rule_laws.proofs.ToolLaws.{given_on}
use Rattle.rule_laws.proofs.KindLaws.{number_back}
use Rattle.rule_laws.proofs.AcceptedLaws.{checked_taken}
use Rattle.rule_laws.proofs.RuleLaws.{refuse_fine, wrote_fine}
use Rattle.settling.proofs.FeedLaws.{take_on}
use Rattle.record.specs.Layout.{ledger_of}
use Rattle.soundness.specs.Sound.{sound_words}
use Rattle.soundness.proofs.Laws.{words_spelled, sound_formed}
use Rattle.node.specs.Stepping.{Leaves}
use Rattle.taking.specs.Taking.{take_leaves}
use Rattle.writers.specs.Writing.{unsound, kind_on, certificate_on, proof_on}
use Rattle.readback.proofs.Words.{packet_is, certificate_length, proof_length}
use Rattle.safety.specs.Slot.{Test, Ballot}
use Rattle.safety.specs.Ring.{after_all, cast_by, GenuinePacket}
use Rattle.safety.specs.Promises.{AcceptedAs}
use Rattle.safety.specs.Watchers.{HoldsGenuine}
use Rattle.safety.proofs.Lives.{Sized, start_sized}
use Rattle.safety.proofs.Packets.{packet_more}
use Rattle.safety.proofs.Safety.{in_table_lem}
use Rattle.safety.proofs.Room as book
use Rattle.safety.proofs.Written.{count_is, stakes_are, certificate_written, proof_written}
use Rattle.safety.proofs.Honest.{node_holds, certificate_holds, proof_holds}
use Rattle.answers.specs.Face.{Wrote}
use Rattle.seen.specs.Seen.{Seen, LifeSeen}
use Rattle.seen.specs.Ring.{told_ballot}
use Rattle.seen.specs.Written.{NamedAs, CertificateAccepted, ProofAccepted, WrittenAccepted, CertificateGenuine, ProofGenuine, WrittenGenuine, NeverEight, WrittenTaken}
use Rattle.seen.proofs.Numbers.{eight_refused, named, zero_written}
use Rattle.seen.proofs.Alive.{alive_common}
use Rattle.seen.proofs.Ring.{cast_told, genuine, book_ring}

-- The first bytes of the buffer, as many as were written.
front : {w : writer.Wrote} {buffer after : List ℕ} {a : Result ℕ Refusal} (n : ℕ) → Writes w buffer a after → n ≡ length w.bytes → take n after ≡ w.bytes
front {w} {buffer} {after} n x e =
    let z : n - 0 ≡ n = omega arith in subst (λ (m : ℕ). take m after ≡ w.bytes) z (packet_is w.bytes buffer after n x.bytes e)

module _ (stakes : List ℕ) (own genesis : ℕ) (size : Sized stakes own) (v : Seen) (h : LifeSeen (fresh stakes own genesis) v) where
  abbrev now : Ledger
  now = after_all (fresh stakes own genesis) v.came

  pub certificate_on_lem : (room kind s b : ℕ) → certificate_on v.words room kind s b ≡ write_certificate now room (kind_in (length stakes) kind) s b
  unfolding certificate_on
  certificate_on_lem room kind s b =
      given_on (sound_words v.words) unsound (λ _. write_certificate (ledger_of v.words) room (kind_on v.words kind) s b) h.sound
      ∙ ap (λ (l : Ledger). write_certificate l room (kind_in l.count kind) s b) h.ledger
      ∙ ap (λ (n : ℕ). write_certificate now room (kind_in n kind) s b) (count_is stakes own genesis size v.came)

  pub proof_on_lem : (room s b : ℕ) → proof_on v.words room s b ≡ write_proof now room s b
  unfolding proof_on
  proof_on_lem room s b =
      given_on (sound_words v.words) unsound (λ _. write_proof (ledger_of v.words) room s b) h.sound ∙ ap (λ (l : Ledger). write_proof l room s b) h.ledger

  -- What stands at the buffer's front is what the rule book's writer writes there.
  record Laid (w : writer.Wrote) (after : List ℕ) (n : ℕ) : Type 0 where
    bytes : take n after ≡ w.bytes
    answer : w.answer ≡ Ok n

  laid_certificate : (buffer after : List ℕ) (kind s b n : ℕ) → Wrote (certificate_on v.words (length buffer) kind s b) buffer 0 n after
      → Laid (write_certificate now (length buffer) (kind_in (length stakes) kind) s b) after n
  laid_certificate buffer after kind s b n w =
      let on = certificate_on_lem (length buffer) kind s b in
      let z = zero_written _ buffer after n w in
      record {
        bytes = front n z.0 (certificate_length v.words (length buffer) kind s b n z.1) ∙ ap (λ (x : writer.Wrote). x.bytes) on;
        answer = ap (λ (x : writer.Wrote). x.answer) (sym on) ∙ z.1;
      }

  laid_proof : (buffer after : List ℕ) (s b n : ℕ) → Wrote (proof_on v.words (length buffer) s b) buffer 0 n after → Laid (write_proof now (length buffer) s b) after n
  laid_proof buffer after s b n w =
      let on = proof_on_lem (length buffer) s b in
      let z = zero_written _ buffer after n w in
      record {
        bytes = front n z.0 (proof_length v.words (length buffer) s b n z.1) ∙ ap (λ (x : writer.Wrote). x.bytes) on;
        answer = ap (λ (x : writer.Wrote). x.answer) (sym on) ∙ z.1;
      }

  -- What is written is of a kind.
  kind_written : (room kind s b n : ℕ) → (write_certificate now room (kind_in (length stakes) kind) s b).answer ≡ Ok n → is_other_kind (kind_in (length stakes) kind) ≡ false
  unfolding write_certificate certificate_verdict
  kind_written room kind s b n e = (refuse_fine _ _ _ (refuse_fine _ _ _ (wrote_fine _ _ n e)).1).0

  -- A written certificate is accepted as what was asked for.
  pub certificate_accepted : (buffer after : List ℕ) (kind s b n : ℕ) → b < 2 ^ 64 → Wrote (certificate_on v.words (length buffer) kind s b) buffer 0 n after
      → AcceptedAs (check_certificate stakes (take n after)) (kind_in (length stakes) kind) s b
  certificate_accepted buffer after kind s b n small w =
      let p = laid_certificate buffer after kind s b n w in
      subst (λ (x : List ℕ). AcceptedAs (check_certificate stakes x) (kind_in (length stakes) kind) s b) (sym p.bytes)
      (certificate_written stakes own genesis size v.came (length buffer) (kind_in (length stakes) kind) s b n small p.answer)

  accepted : CertificateAccepted stakes v.words × ProofAccepted stakes v.words
  accepted = (
    (λ buffer after values kind s b n number missing small w c.
        let p = laid_certificate buffer after kind s b n w in
        subst (λ (x : ℕ). NamedAs number values x s b) (number_back (length stakes) kind (kind_written (length buffer) kind s b n p.answer))
        (named (length stakes) (check_certificate stakes (take n after)) number values missing (kind_in (length stakes) kind) s b c
        (certificate_accepted buffer after kind s b n small w))),
    (λ buffer after values s b n number missing small w c.
        let p = laid_proof buffer after s b n w in
        let a = proof_written stakes own genesis size v.came (length buffer) s b n small p.answer in (
          number_in (length stakes) a.0,
          named (length stakes) (check_proof stakes (take n after)) number values missing a.0 s b c
              (subst (λ (x : List ℕ). AcceptedAs (check_proof stakes x) a.0 s b) (sym p.bytes) a.1),
        )),
  )

  pub holds : (honest : Test) (cast : ℕ → ℕ → Ballot → Bool) → ((m : ℕ) → T (honest m) → m < length stakes) → HoldsGenuine honest cast now
      → CertificateGenuine stakes honest cast v.words × ProofGenuine stakes honest cast v.words
  holds honest cast inside g = (
    (λ buffer after kind s b n small w.
        let p = laid_certificate buffer after kind s b n w in
        subst (GenuinePacket (length stakes) honest cast) (sym p.bytes)
        (certificate_holds stakes honest cast inside own genesis size v.came g (length buffer) (kind_in (length stakes) kind) s b n small p.answer)),
    (λ buffer after s b n small w.
        let p = laid_proof buffer after s b n w in
        subst (GenuinePacket (length stakes) honest cast) (sym p.bytes)
        (proof_holds stakes honest cast inside own genesis size v.came g (length buffer) s b n small p.answer)),
  )

pub written_accepted : WrittenAccepted
written_accepted stakes genesis v a = let c = alive_common a in accepted stakes c.own genesis c.size v c.lived

pub written_genuine : WrittenGenuine
written_genuine stakes genesis honest lives ring n v m =
    let fed : ℕ → List Arrival = λ n. (lives n).came in
    let r = book_ring stakes genesis honest lives ring in
    let cast = cast_by stakes genesis honest fed in
    let told = packet_more (length stakes) honest cast (told_ballot lives) (cast_told stakes genesis honest lives ring.nodes.lived) in
    let g = holds stakes n (genesis n) (start_sized stakes n (genesis n) m.lived.started) v m.lived.lived honest cast (in_table_lem stakes genesis honest fed r)
    (node_holds stakes genesis honest fed r n m.is_honest v.came m.earlier.since m.earlier.goes_on) in (
      (λ buffer after kind s b size small w. told _ (g.0 buffer after kind s b size small w)),
      (λ buffer after s b size small w. told _ (g.1 buffer after s b size small w)),
    )

pub never_eight : NeverEight
unfolding take_leaves
never_eight stakes genesis honest lives ring n v m lent packet number made words left g t x =
    book.never_eight stakes genesis honest (λ n. (lives n).came) (book_ring stakes genesis honest lives ring) n m.is_honest v.came m.earlier.since m.earlier.goes_on
    (length lent) packet (genuine stakes genesis honest lives ring.nodes.lived packet g)
    (ap (λ (l : Ledger). (take_certificate l (length lent) packet).answer) (sym m.lived.lived.ledger)
    ∙ sym (ap (λ (z : Leaves). z.answer) (given_on _ _ _ (words_spelled v.words m.lived.lived.sound)))
    ∙ eight_refused (take_leaves v.words lent packet).answer (sym t.numbered ∙ x))

-- ---- what the checker accepts is taken, or kept already, or answered 8

welcome_by : (repeat room : Bool) (l : Ledger) (c : Certificate) (answer : Result ℕ Refusal)
    → answer ≡ (taken_on (refuse_if repeat refusal.AlreadyKept (refuse_if (not room) refusal.OtherStands (Ok tt))) l c).answer
    → ¬ ((step_panel answer).number ≡ 8) → ((step_panel answer).number ≡ 0) ⊎ ((step_panel answer).number ≡ 7)
unfolding refuse_if taken_on fed_with refused_with step_panel refusal_number
welcome_by true room l c answer e ne = inr (ap (λ (a : Result ℕ Refusal). (step_panel a).number) e)
welcome_by false true l c answer e ne = inl (ap (λ (a : Result ℕ Refusal). (step_panel a).number) e)
welcome_by false false l c answer e ne = absurd (ne (ap (λ (a : Result ℕ Refusal). (step_panel a).number) e))

welcome : (l : Ledger) (packet : List ℕ) (a : Accepted) (answer : Result ℕ Refusal) → check_certificate (table_of l) packet ≡ Ok a
    → answer ≡ (take_packet l packet).answer → ¬ ((step_panel answer).number ≡ 8) → ((step_panel answer).number ≡ 0) ⊎ ((step_panel answer).number ≡ 7)
unfolding taken kept_verdict
welcome l packet a answer e q =
    let k = checked_taken l packet a e in
    let c : Certificate = k.0 in
    welcome_by (some_kept (is_repeat (kind_in l.count c.kind) c.block) 0 (certificates_at l c.slot)) (has_room (kind_in l.count c.kind) 0 (certificates_at l c.slot)) l c answer
    (q ∙ ap (λ (f : Fed). f.answer) k.1)

pub written_taken : WrittenTaken
unfolding take_leaves
written_taken stakes genesis honest lives ring n m v w h k buffer after kind s b written small x lent number made words left space t =
    let packet = take written after in
    let l : Ledger = ledger_of w.words in
    let sound = k.lived.lived.sound in
    let a = (take_leaves w.words lent packet).answer in
    let table : table_of l ≡ stakes = ap table_of k.lived.lived.ledger ∙ stakes_are stakes m (genesis m) (start_sized stakes m (genesis m) k.lived.started) w.came in
    let p = laid_certificate stakes n (genesis n) (start_sized stakes n (genesis n) h.lived.started) v h.lived.lived buffer after kind s b written x in
    let good = certificate_written stakes n (genesis n) (start_sized stakes n (genesis n) h.lived.started) v.came (length buffer) (kind_in (length stakes) kind) s b written small p.answer in
    let g = (written_genuine stakes genesis honest lives ring n v h).0 buffer after kind s b written small x in
    subst (λ (j : ℕ). (j ≡ 0) ⊎ (j ≡ 7)) (sym t.numbered)
    (welcome l packet good.what a (ap (λ (ts : List ℕ). check_certificate ts packet) table ∙ ap (check_certificate stakes) p.bytes ∙ good.accepted)
    (ap (λ (z : Leaves). z.answer) (given_on _ _ _ (words_spelled w.words sound)) ∙ ap (λ (f : Fed). f.answer) (take_on l packet (length lent) (sound_formed w.words sound) space))
    (λ e. never_eight stakes genesis honest lives ring m w k lent packet number made words left g t (t.numbered ∙ e)))
