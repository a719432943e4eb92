-- What the writers ask of the functions that they call, and that the bytes laid are the answer. Assumes nothing.
use Rattle.std.specs.Prelude.{⊤, Result, Err}
use mathlib.Core.Path.{◌≡◌, refl, sym, ap, ap₂, ◌∙◌, subst}
use mathlib.Core.Bool.{true, false, ◌&&◌}
use mathlib.Core.List.{List, ◌++◌}
use Prim.Native.Nat.{ℕ, suc, ◌+◌, ◌*◌, ◌≤◌, ◌<◌}
use native.Mathlib.Omega.{arith}
use lib.ListN.{length, take, length-append}
use lib.Seq.{take_at}
use borrow.Author.Tests.{eq-eqb, ne_eqb}
use Rattle.rulebook.specs.Certificates.{Certificate, Kept}
use Rattle.rulebook.specs.declared.Heading.{Heading}
use Rattle.rulebook.specs.declared.CertificateKind.{CertificateKind}
use Rattle.rulebook.specs.declared.CertificateKind.TheVariants as certificate
use Rattle.rulebook.specs.declared.Refusal.TheVariants as refusal
use Rattle.rulebook.specs.Weights.{last_slot, slot_ok}
use Rattle.rulebook.specs.Ledger.{Ledger, most_certificates, places, certificates_at, kept_at, is_kept}
use Rattle.rulebook.specs.Pool.{reached, kept_as, held, missing_to}
use Rattle.rulebook.specs.Rules.{is_final}
use Rattle.rulebook.specs.PaperNumbers.{kind_in, number_in}
use Rattle.rulebook.specs.Checker.{is_other_kind}
use Rattle.rulebook.specs.Packets.{words_in, certificate_of, certificate_bytes}
use Rattle.rulebook.specs.Writers.{Wrote, voted_for, kept_for, masked_by, certificate_for, certificate_room, proof_room, wrote_on, certificate_verdict, write_certificate, proof_verdict, proof_bytes, write_proof, over, Writes}
use Rattle.rule_laws.proofs.ToolLaws.{choose_on, choose_off, given_on, given_off, and_both, or_cases, by_test, true_not_false}
use Rattle.rule_laws.proofs.WeightLaws.{reached_missing}
use Rattle.rule_laws.proofs.PlaceLaws.{placed_each}
use Rattle.rule_laws.proofs.CertificateLaws.{kept_within, kept_serving}
use Rattle.rule_laws.proofs.NumberLaws.{certificate_few}
use Rattle.rule_laws.proofs.KindLaws.{kind_back, kind_small, kind_words, certificate_room_lem, proof_room_lem}
use Rattle.certificate_numbers.specs.Told.{Masks}
use Rattle.certificate_numbers.proofs.Whole.{words_few}
use Rattle.numbers.specs.Written.{Room, Written}
use Rattle.numbers.proofs.Stores.{after}
use Rattle.record.specs.Layout.{mask_words, ledger_of}
use Rattle.record.proofs.Reading.{ledger_shaped}
use Rattle.kept_certificates.specs.Kept.{Lent}
use Rattle.kept_places.proofs.Families.{family_words}
use Rattle.soundness.specs.Sound.{sound_words}
use Rattle.settling.proofs.Verdicts.{slot_range}
use Rattle.soundness.proofs.Laws.{sound_long, sound_head, sound_placed, sound_tabled, sound_cards}
use Rattle.pool.specs.Weighing.{Weighing, Carded}
use Rattle.signers.specs.Masks.{Naming}
use Rattle.writers.proofs.Verdicts.{slot_row}
use Rattle.writers.specs.Writing.{unsound, kind_on, certificate_on, proof_on, kept_certificate, Laying}
use Rattle.rulebook.specs.declared.Refusal.{Refusal}

-- ---- what the inner functions ask

-- The kind that a number stands for in the record's table.
pub kind_asked : (ws : List ℕ) (n : ℕ) {k : CertificateKind} {count : ℕ} → k ≡ kind_in count n → count ≡ (ledger_of ws).count → k ≡ kind_on ws n
kind_asked ws n e g = e ∙ ap (λ (x : ℕ). kind_in x n) g

-- The number of a kind there, and the words that it has.
pub number_asked : (ws : List ℕ) (k : CertificateKind) {n count : ℕ} → n ≡ number_in count k → count ≡ (ledger_of ws).count → n ≡ number_in (ledger_of ws).count k
number_asked ws k f g = f ∙ ap (λ (x : ℕ). number_in x k) g

pub words_asked : (ws : List ℕ) (k : CertificateKind) {w n count : ℕ} → w ≡ words_in n → n ≡ number_in count k → count ≡ (ledger_of ws).count
    → w ≡ words_in (number_in (ledger_of ws).count k)
words_asked ws k e f g = e ∙ ap words_in (number_asked ws k f g)

-- Masks of as many words as the kind says have words for every node.
pub naming : (ws : List ℕ) (s : ℕ) (a b : List ℕ) (k : CertificateKind) (w : ℕ) → sound_words ws ≡ true → s < suc last_slot → is_other_kind k ≡ false
    → w ≡ words_in (number_in (ledger_of ws).count k) → length a ≡ w → length b ≡ w → Naming ws s a b
naming ws s a b k w e h o n p q =
    let wide = kind_words (ledger_of ws).count k o (sound_head ws e).few in
    let most = words_few w (number_in (ledger_of ws).count k) n in
    record {
      long = sound_long ws e;
      slot = h;
      few = (sound_head ws e).few;
      placed = sound_placed ws e;
      wide_a = record { long = omega (arith, wide, n, p); few = omega (arith, most, p) };
      wide_b = record { long = omega (arith, wide, n, q); few = omega (arith, most, q) };
    }

pub weighing : (ws : List ℕ) (s : ℕ) → sound_words ws ≡ true → s < suc last_slot → Weighing ws s
weighing ws s e h = record { long = sound_long ws e; slot = h; table = sound_tabled ws e }

-- Every card of sound words is the recount, so that what is held is read off it.
pub carded : (ws : List ℕ) (s : ℕ) → sound_words ws ≡ true → slot_ok s ≡ true → Carded ws s
carded ws s e h =
    record {
      weighing = weighing ws s e (slot_row s h);
      later = (slot_range s h).0;
      cards = sound_cards ws e;
    }

-- ---- the two sources of masks

module _ (l : Ledger) (k : CertificateKind) (s b : ℕ) where
  pub by_votes_lem : reached l k s b ≡ true → certificate_for l k s b ≡ voted_for l k s b
  unfolding certificate_for
  by_votes_lem t = choose_on (reached l k s b) (voted_for l k s b) (kept_certificate l k s b) t

  pub by_masks : reached l k s b ≡ false → certificate_for l k s b ≡ kept_certificate l k s b
  unfolding certificate_for
  by_masks t = choose_off (reached l k s b) (voted_for l k s b) (kept_certificate l k s b) t

  -- What the stored votes do not reach is held by a kept certificate.
  pub held_kept : held l k s b ≡ true → reached l k s b ≡ false → kept_as l k s b ≡ true
  unfolding held
  held_kept h t = or_cases (reached l k s b) (kept_as l k s b) h (λ u. true_not_false (reached l k s b) u t) (λ u. u)

  -- Nothing is missing exactly where the votes reach it.
  pub missing_none : {m : ℕ} → m ≡ missing_to l k s b → m ≡ 0 → reached l k s b ≡ true
  missing_none {m} e z = reached_missing l k s b ∙ eq-eqb (missing_to l k s b) 0 (sym e ∙ z)

  pub missing_some : {m : ℕ} → m ≡ missing_to l k s b → (m ≡ 0 → ⊥) → reached l k s b ≡ false
  missing_some {m} e z = reached_missing l k s b ∙ ne_eqb (missing_to l k s b) 0 (λ n. z (e ∙ n))

-- A kept certificate that serves is at one of the slot's places.
pub place_there : (ws : List ℕ) (k : CertificateKind) (s b n : ℕ) → s < suc last_slot → kept_as (ledger_of ws) k s b ≡ true
    → kept_at (ledger_of ws) s n ≡ kept_for k b (certificates_at (ledger_of ws) s) → n < most_certificates
unfolding kept_as
place_there ws k s b n h e q =
    let qs = certificates_at (ledger_of ws) s in
    omega (arith, (ledger_shaped ws).certificates s h, kept_within qs n (ap (λ (x : Kept). is_kept x) q ∙ (kept_serving qs k b e).kept))

-- The record's masks have as many words as the kind says.
pub kept_words_lem : (ws : List ℕ) (k : CertificateKind) → sound_words ws ≡ true → is_other_kind k ≡ false
    → mask_words (places (ledger_of ws)) ≡ words_in (number_in (ledger_of ws).count k)
kept_words_lem ws k e o =
    let count = (ledger_of ws).count in
    let head = sound_head ws e in
    ap mask_words (head.room ∙ placed_each count head.few) ∙ sym (family_words count (number_in count k) (ap is_other_kind (kind_back count k) ∙ o))

-- The masks that are lent from a place make the certificate.
module _ (l : Ledger) (k : CertificateKind) (s b n : ℕ) (q : kept_at l s n ≡ kept_for k b (certificates_at l s)) (xs ys : List ℕ)
    (a : Lent l (kept_at l s n).maska xs) (c : Lent l (kept_at l s n).maskb ys) (number : ℕ) (e : number ≡ number_in l.count k) where
  abbrev heading : Heading
  heading = record { kind = number; slot = record { 0 = s }; block = b }

  pub kept_named : certificate_of heading xs ys ≡ kept_certificate l k s b
  unfolding masked_by
  kept_named = rw (a.spells, c.spells, q, e)

  pub kept_masks : mask_words (places l) ≡ words_in (number_in l.count k) → Masks heading xs ys
  kept_masks w =
      let words : words_in (number_in l.count k) ≡ words_in number = ap words_in (sym e) in
      record { long_a = a.many ∙ w ∙ words; long_b = c.many ∙ w ∙ words }

-- ---- lengths

-- A certificate has no more bytes than are asked for, whatever it names.
short : (l : Ledger) (k : CertificateKind) (c : Certificate) → c.kind ≡ number_in l.count k → c.slot < suc last_slot
    → length (certificate_bytes c) ≤ certificate_room l.count
short l k c e h =
    let few : length (certificate_bytes c) ≤ 12 + 20 * words_in c.kind = certificate_few c (omega (arith, e, kind_small l.count k)) (omega arith) in
    omega (arith, few, ap words_in e, certificate_room_lem l.count k)

pub certificate_short : (l : Ledger) (k : CertificateKind) (s b : ℕ) → s < suc last_slot → length (certificate_bytes (certificate_for l k s b)) ≤ certificate_room l.count
unfolding voted_for masked_by
certificate_short l k s b h =
    by_test (reached l k s b)
    (λ t. omega (arith, ap (λ (c : Certificate). length (certificate_bytes c)) (by_votes_lem l k s b t), short l k (voted_for l k s b) refl h))
    (λ t. omega (arith, ap (λ (c : Certificate). length (certificate_bytes c)) (by_masks l k s b t), short l k (kept_certificate l k s b) refl h))

-- The bytes of a proof, by the form that is held.
pub proof_fast : (l : Ledger) (s b : ℕ) → held l certificate.FastFinal s b ≡ true
    → proof_bytes l s b ≡ certificate_bytes (certificate_for l certificate.FastFinal s b)
unfolding proof_bytes
proof_fast l s b e = given_on _ _ _ e

pub proof_slow : (l : Ledger) (s b : ℕ) → held l certificate.FastFinal s b ≡ false
    → proof_bytes l s b ≡ certificate_bytes (certificate_for l certificate.Notar s b) ++ certificate_bytes (certificate_for l certificate.Final s 0)
unfolding proof_bytes
proof_slow l s b e = given_off _ _ _ e

-- A final block whose kind 1 is not held has kinds 2 and 5 held.
pub proof_held : (l : Ledger) (s b : ℕ) → is_final l s b ≡ true → held l certificate.FastFinal s b ≡ false
    → (held l certificate.Notar s b ≡ true) × (held l certificate.Final s 0 ≡ true)
unfolding is_final
proof_held l s b f e =
    or_cases (held l certificate.FastFinal s b) (held l certificate.Notar s b && held l certificate.Final s 0) f
    (λ t. true_not_false (held l certificate.FastFinal s b) t e) (λ t. and_both (held l certificate.Notar s b) (held l certificate.Final s 0) t)

two_short : (l : Ledger) (s b : ℕ) → s < suc last_slot
    → length (certificate_bytes (certificate_for l certificate.Notar s b) ++ certificate_bytes (certificate_for l certificate.Final s 0)) ≤ proof_room l.count
two_short l s b h =
    omega (
      arith,
      length-append (certificate_bytes (certificate_for l certificate.Notar s b)) (certificate_bytes (certificate_for l certificate.Final s 0)),
      certificate_short l certificate.Notar s b h,
      certificate_short l certificate.Final s 0 h,
      proof_room_lem l.count,
    )

-- So has a proof.
pub proof_short : (l : Ledger) (s b : ℕ) → s < suc last_slot → length (proof_bytes l s b) ≤ proof_room l.count
proof_short l s b h =
    by_test (held l certificate.FastFinal s b)
    (λ e. omega (arith, ap length (proof_fast l s b e), certificate_short l certificate.FastFinal s b h, proof_room_lem l.count))
    (λ e. omega (arith, ap length (proof_slow l s b e), two_short l s b h))

-- ---- laying

-- Words that were lent from the front are there again.
pub front_enough : (w : ℕ) (xs more : List ℕ) → length xs ≡ w → w ≤ length (xs ++ more)
front_enough w xs more e = omega (arith, e, length-append xs more)

-- The words that were lent for the masks stand at the front of those that are given back.
module _ (l : Ledger) (k : CertificateKind) (s b : ℕ) (h : Heading) (w : ℕ) (xs ys : List ℕ) (e : certificate_of h xs ys ≡ voted_for l k s b) (p : length xs ≡ w)
    (q : length ys ≡ w) (more rest : List ℕ) where
  pub given_back : certificate_of h (take w (xs ++ more)) (take w (ys ++ rest)) ≡ voted_for l k s b
  given_back = ap₂ (λ (x y : List ℕ). certificate_of h x y) (take_at xs more w p) (take_at ys rest w q) ∙ e

  pub given_masks : w ≡ words_in (number_in l.count k) → Masks h (take w (xs ++ more)) (take w (ys ++ rest))
  unfolding voted_for
  given_masks n =
      let kind : h.kind ≡ number_in l.count k = ap (λ (c : Certificate). c.kind) e in
      let words : w ≡ words_in h.kind = n ∙ ap words_in (sym kind) in
      record { long_a = ap length (take_at xs more w p) ∙ p ∙ words; long_b = ap length (take_at ys rest w q) ∙ q ∙ words }

-- There is room for the same certificate, and it is written.
pub laying_same : {ws buffer : List ℕ} {at s : ℕ} {k : CertificateKind} {c d : Certificate} → c ≡ d → Laying ws buffer at k s c → Laying ws buffer at k s d
laying_same {ws} {buffer} {at} {s} {k} e y = subst (λ (x : Certificate). Laying ws buffer at k s x) e y

pub laid_same : {buffer left : List ℕ} {at n : ℕ} {c d : Certificate} → c ≡ d → Written buffer at (certificate_bytes c) left n → Written buffer at (certificate_bytes d) left n
laid_same {buffer} {left} {at} {n} e w = subst (λ (x : Certificate). Written buffer at (certificate_bytes x) left n) e w

-- There is room for a certificate at the front.
pub room_front : (l : Ledger) (k : CertificateKind) (s b : ℕ) (buffer : List ℕ) → s < suc last_slot → certificate_room l.count ≤ length buffer
    → Room buffer 0 (certificate_bytes (certificate_for l k s b))
room_front l k s b buffer h r = record { ends = omega (arith, certificate_short l k s b h) }

-- Where there is room for a proof, there is room for a certificate.
pub room_either : (count free : ℕ) → proof_room count ≤ free → certificate_room count ≤ free
room_either count free h = omega (arith, proof_room_lem count)

-- There is room for the second after the first.
pub room_next : (l : Ledger) (s b : ℕ) (buffer mid : List ℕ) (p : ℕ) → s < suc last_slot → proof_room l.count ≤ length buffer → length mid ≡ length buffer
    → Written buffer 0 (certificate_bytes (certificate_for l certificate.Notar s b)) mid p → Room mid p (certificate_bytes (certificate_for l certificate.Final s 0))
room_next l s b buffer mid p h r k w =
    record { ends = omega (arith, w.next_is, certificate_short l certificate.Notar s b h, certificate_short l certificate.Final s 0 h, proof_room_lem l.count) }

-- A kind 1 certificate is the proof where it is held.
pub laid_fast : (l : Ledger) (s b : ℕ) {buffer left : List ℕ} {n : ℕ} → held l certificate.FastFinal s b ≡ true
    → Written buffer 0 (certificate_bytes (certificate_for l certificate.FastFinal s b)) left n → Written buffer 0 (proof_bytes l s b) left n
laid_fast l s b {buffer} {left} {n} e w = subst (λ (x : List ℕ). Written buffer 0 x left n) (sym (proof_fast l s b e)) w

-- Else the two others, one after the other.
pub laid_slow : (l : Ledger) (s b : ℕ) {buffer mid left : List ℕ} {p n : ℕ} → held l certificate.FastFinal s b ≡ false → s < suc last_slot → proof_room l.count ≤ length buffer
    → Written buffer 0 (certificate_bytes (certificate_for l certificate.Notar s b)) mid p → Written mid p (certificate_bytes (certificate_for l certificate.Final s 0)) left n
    → Written buffer 0 (proof_bytes l s b) left n
laid_slow l s b {buffer} {mid} {left} {p} {n} e h r w v =
    subst (λ (x : List ℕ). Written buffer 0 x left n) (sym (proof_slow l s b e)) (after (omega (arith, two_short l s b h)) w v)

-- ---- the two operations

-- The buffer as found.
pub writes_unsound : (wrote : Wrote) (buffer : List ℕ) → wrote ≡ unsound → Writes wrote buffer (Err refusal.BadRecord) buffer
unfolding unsound over
writes_unsound wrote buffer e = rw e (record { answered = refl; bytes = refl })

-- What is answered, by what was found of the words and of the call.
module _ (ws : List ℕ) (room kind s b : ℕ) where
  pub certificate_unsound : sound_words ws ≡ false → certificate_on ws room kind s b ≡ unsound
  unfolding certificate_on
  certificate_unsound e = given_off _ _ _ e

  pub certificate_judged : (k : CertificateKind) → k ≡ kind_on ws kind → (v : Result ⊤ Refusal) → sound_words ws ≡ true
      → v ≡ certificate_verdict (ledger_of ws) room k s b → certificate_on ws room kind s b ≡ wrote_on v (certificate_bytes (certificate_for (ledger_of ws) k s b))
  unfolding certificate_on write_certificate
  certificate_judged k q v e f =
      let l = ledger_of ws in
      let n = kind_on ws kind in
      given_on (sound_words ws) unsound (λ _. wrote_on (certificate_verdict l room n s b) (certificate_bytes (certificate_for l n s b))) e
      ∙ ap (λ (x : CertificateKind). wrote_on (certificate_verdict l room x s b) (certificate_bytes (certificate_for l x s b))) (sym q)
      ∙ ap (λ (x : Result ⊤ Refusal). wrote_on x (certificate_bytes (certificate_for l k s b))) (sym f)

module _ (ws : List ℕ) (room s b : ℕ) where
  pub proof_unsound : sound_words ws ≡ false → proof_on ws room s b ≡ unsound
  unfolding proof_on
  proof_unsound e = given_off _ _ _ e

  pub proof_judged : (v : Result ⊤ Refusal) → sound_words ws ≡ true → v ≡ proof_verdict (ledger_of ws) room s b
      → proof_on ws room s b ≡ wrote_on v (proof_bytes (ledger_of ws) s b)
  unfolding proof_on write_proof
  proof_judged v e f =
      given_on (sound_words ws) unsound (λ _. wrote_on (proof_verdict (ledger_of ws) room s b) (proof_bytes (ledger_of ws) s b)) e
      ∙ rw f refl
