-- What a writer gives is accepted and reads back to what is held, with its true count and weight.
use Rattle.std.specs.Prelude.{Ok, Err}
use mathlib.Core.Path.{◌≡◌, refl, sym, ap, ap₂, ◌∙◌, subst}
use mathlib.Core.Bool.{Bool, true, false, not, ◌&&◌, ◌||◌}
use mathlib.Core.List.{List, [], ◌∷◌, ◌++◌, append-nil}
use Prim.Native.Nat.{ℕ, ◌+◌, ◌*◌, ◌^◌, ◌≤◌, ◌<◌}
use native.Mathlib.Nat.{zero-add}
use native.Mathlib.Omega.{arith}
use lib.ListN.{length, length-append}
use lib.Pow.{pow_mono}
use lib.Dec.{eqb, leb, ltb, lit<}
use borrow.Author.Tests.{lt-leb, le-ltb, leb-true, not-false, eq-eqb}
use Rattle.rulebook.specs.declared.Cell.{Cell}
use Rattle.rulebook.specs.declared.Accepted.{Accepted}
use Rattle.rulebook.specs.Certificates.{Certificate, Kept}
use Rattle.rulebook.specs.declared.CertificateKind.{CertificateKind}
use Rattle.rulebook.specs.declared.CertificateKind.TheVariants as certificate
use Rattle.rulebook.specs.Certificates as found
use Rattle.rulebook.specs.declared.Refusal.TheVariants as refusal
use Rattle.rulebook.specs.declared.Weight.{Weight}
use Rattle.rulebook.specs.Tools.{part, sum_to, some_to}
use Rattle.rulebook.specs.Weights.{last_slot, most_nodes, stake_in, weight, total_to, reaches, slot_ok, stakes_fit}
use Rattle.rulebook.specs.PaperNumbers.{kind_in, number_in}
use Rattle.rulebook.specs.Ledger.{Ledger, none, cell_at, certificates_at, is_kept}
use Rattle.rulebook.specs.Pool.{has_fallback, counts, weigh, weighs, signers_of, fifths_of, reached, place_kind, kept_as, held}
use Rattle.rulebook.specs.Rules.{is_final}
use Rattle.rulebook.specs.Inputs.{refuse_if}
use Rattle.rulebook.specs.Packets.{words_in, certificate_at, certificate_bytes, bit, mask_of, count_of}
use Rattle.rulebook.specs.Checker.{good, is_other_kind, block_misfits, without_b, bad_signers, signed, signed_weight, judge_weight, judge_kind, judge, accepted_of, judged, one_of, one_at, ended, single_of, check_certificate, second_of, first_in, proof_of, check_proof}
use Rattle.rulebook.specs.Writers.{in_a, in_b, voted_for, kept_for, masked_by, certificate_for, certificate_room, proof_room, certificate_verdict, write_certificate, proof_verdict, proof_bytes, write_proof}
use Rattle.rulebook.specs.WellFormed.{kept_in}
use Rattle.rule_laws.proofs.ToolLaws.{given_on, given_off, choose_on, choose_off, and_both, both_and, or_cases, by_test, true_not_false, sum_same, sum_const, part_off}
use Rattle.rule_laws.proofs.MaskLaws.{mask_lt, masks_apart, masks_weight, masks_count, count_same}
use Rattle.rule_laws.proofs.WeightLaws.{weight_same}
use Rattle.rule_laws.proofs.NumberLaws.{Fits64, certificate_in_lem}
use Rattle.rule_laws.proofs.KindLaws.{kind_back, kind_small, kind_words}
use Rattle.rule_laws.proofs.CertificateLaws.{Serving, kept_serving, serves_judged, judged_masks}
use Rattle.packets.specs.Promises.{parts, TableIs, signers_for, accepted_for, proof_parts, proof_kind, CertificateBack, ProofBack}
use Rattle.rule_laws.proofs.RuleLaws.{refuse_fine, wrote_fine, wrote_bytes}
use Rattle.packets.proofs.Spelling.{parts_one, parts_two}

-- ---- a node counts by one of the two masks, and by one only

-- One test, and another beside it.
or_else : (a h : Bool) → (a || (h && not a)) ≡ (a || h)
or_else true h = refl
or_else false true = refl
or_else false false = refl

or_no : (a : Bool) → (a || false) ≡ a
or_no true = refl
or_no false = refl

and_no : (a : Bool) → (a && false) ≡ false
and_no true = refl
and_no false = refl

and_else : (a h : Bool) → (a && (h && not a)) ≡ false
and_else true true = refl
and_else true false = refl
and_else false h = refl

or_late : (a h : Bool) → (not a || (h && a)) ≡ (not a || h)
or_late true true = refl
or_late true false = refl
or_late false h = refl

and_late : (a h : Bool) → (not a && (h && a)) ≡ false
and_late true h = refl
and_late false true = refl
and_late false false = refl

who_counts : (k : CertificateKind) (b : ℕ) (c : Cell) → is_other_kind k ≡ false → (in_a k b c || in_b k b c) ≡ counts (signers_of k b) c
unfolding is_other_kind in_a in_b counts signers_of
who_counts certificate.FastFinal b c t = or_no (eqb c.notar b)
who_counts certificate.Notar b c t = or_no (eqb c.notar b)
who_counts certificate.NotarFallback b c t = or_else (eqb c.notar b) (has_fallback b c)
who_counts certificate.Skip b c t = or_late (none c.skip) (not (none c.skipfallback))
who_counts certificate.Final b c t = or_no (not (none c.finalvote))
who_counts certificate.Other b c t = let z : ◌≡◌ {A = ℕ} 0 1 = cc in absurd (omega arith)

never_both : (k : CertificateKind) (b : ℕ) (c : Cell) → (in_a k b c && in_b k b c) ≡ false
unfolding in_a in_b
never_both certificate.FastFinal b c = and_no (eqb c.notar b)
never_both certificate.Notar b c = and_no (eqb c.notar b)
never_both certificate.NotarFallback b c = and_else (eqb c.notar b) (has_fallback b c)
never_both certificate.Skip b c = and_late (none c.skip) (not (none c.skipfallback))
never_both certificate.Final b c = and_no (not (none c.finalvote))
never_both certificate.Other b c = refl

no_b : (k : CertificateKind) (b : ℕ) (c : Cell) → without_b k ≡ true → in_b k b c ≡ false
unfolding without_b in_b
no_b certificate.FastFinal b c t = refl
no_b certificate.Notar b c t = refl
no_b certificate.NotarFallback b c t = let z : ◌≡◌ {A = ℕ} 0 1 = cc in absurd (omega arith)
no_b certificate.Skip b c t = let z : ◌≡◌ {A = ℕ} 0 1 = cc in absurd (omega arith)
no_b certificate.Final b c t = refl
no_b certificate.Other b c t = refl

mask_empty : (p : ℕ → Bool) (n : ℕ) → ((i : ℕ) → p i ≡ false) → mask_of p n ≡ 0
unfolding mask_of
mask_empty p n f = omega (arith, sum_same n (λ i. part (p i) (2 ^ i)) (λ i. 0) (λ i h. part_off (p i) (2 ^ i) (f i)), sum_const n 0)

-- ---- tests

-- None of four tests stands.
none_of : (a b c d : Bool) → a ≡ false → b ≡ false → c ≡ false → d ≡ false → ((a || b) || (c || d)) ≡ false
none_of a b c d p q r s = rw (p, q, r, s)

-- Five tests that do not refuse.
all_passed : (a b c d e : Bool) (m : Weight) → a ≡ false → b ≡ true → c ≡ false → d ≡ false → e ≡ true
    → refuse_if a refusal.BadKind (refuse_if (not b) refusal.BadSlot (refuse_if c refusal.BadBlock (refuse_if d refusal.BadSigners (refuse_if (not e) (refusal.TooLight m) (Ok tt))))) ≡ Ok tt
unfolding refuse_if
all_passed a b c d e m p q r s t = rw (p, q, r, s, t)

-- ---- the checker on packets that begin with a good certificate

module _ (stakes packet : List ℕ) (fits : stakes_fit stakes (length stakes) ≡ true) where
  one_is : (c : Certificate) (at next : ℕ) → certificate_at packet at ≡ found.Whole c next → judge stakes c ≡ Ok tt → one_at stakes packet at ≡ good c next
  unfolding one_at one_of judged
  one_is c at next e j = rw (e, j)

  ends : (c : Certificate) (next : ℕ) → next ≡ length packet → ended stakes packet c next ≡ Ok (accepted_of stakes c)
  unfolding ended
  ends c next e =
      given_on (not (ltb next (length packet))) (Err refusal.BadLength) (λ _. Ok (accepted_of stakes c))
      (ap not (le-ltb next (length packet) (omega arith)))

  accepts_one : (c : Certificate) (next : ℕ) → certificate_at packet 0 ≡ found.Whole c next → judge stakes c ≡ Ok tt → next ≡ length packet
      → check_certificate stakes packet ≡ Ok (accepted_of stakes c)
  unfolding check_certificate single_of
  accepts_one c next e j n =
      given_on (stakes_fit stakes (length stakes)) (Err refusal.BadSizes) (λ _. single_of stakes packet (one_at stakes packet 0)) fits
      ∙ rw (one_is c 0 next e j) (ends c next n)

  accepts_fast : (c : Certificate) (next : ℕ) → certificate_at packet 0 ≡ found.Whole c next → judge stakes c ≡ Ok tt
      → kind_in (length stakes) c.kind ≡ certificate.FastFinal → next ≡ length packet → check_proof stakes packet ≡ Ok (accepted_of stakes c)
  unfolding check_proof proof_of first_in
  accepts_fast c next e j k n =
      given_on (stakes_fit stakes (length stakes)) (Err refusal.BadSizes) (λ _. proof_of stakes packet (one_at stakes packet 0)) fits
      ∙ rw (one_is c 0 next e j, k) (ends c next n)

  accepts_slow : (c d : Certificate) (next end : ℕ) → certificate_at packet 0 ≡ found.Whole c next → judge stakes c ≡ Ok tt
      → kind_in (length stakes) c.kind ≡ certificate.Notar → certificate_at packet next ≡ found.Whole d end → judge stakes d ≡ Ok tt → d.kind ≡ number_in (length stakes) certificate.Final
      → d.slot ≡ c.slot → end ≡ length packet → check_proof stakes packet ≡ Ok (accepted_of stakes c)
  unfolding check_proof proof_of first_in second_of
  accepts_slow c d next end e j k f i five same n =
      given_on (stakes_fit stakes (length stakes)) (Err refusal.BadSizes) (λ _. proof_of stakes packet (one_at stakes packet 0)) fits
      ∙ rw (one_is c 0 next e j, k, one_is d next end f i)
      (given_on (eqb d.kind (number_in (length stakes) certificate.Final) && eqb d.slot c.slot) (Err refusal.NotAProof) (λ _. ended stakes packet c end)
      (both_and (eqb d.kind (number_in (length stakes) certificate.Final)) (eqb d.slot c.slot) (eq-eqb d.kind (number_in (length stakes) certificate.Final) five) (eq-eqb d.slot c.slot same))
      ∙ ends c end n)

-- ---- what is written of a ledger

module _ (l : Ledger) (stakes : List ℕ) (t : TableIs l stakes) where
  abbrev size : ℕ
  size = length stakes

  few : size ≤ most_nodes
  unfolding stakes_fit
  few =
      leb-true size most_nodes
      (and_both (leb 1 size) (leb size most_nodes) (and_both (leb 1 size && leb size most_nodes) _ t.fits).0).1

  -- What the pool weighs is what the stakes weigh.
  weight_is : (who : ℕ → Bool) → weight l.stakes l.count who ≡ weight stakes size who
  unfolding weight
  weight_is who =
      ap (λ (n : ℕ). sum_to n (λ i. part (who i) (stake_in l.stakes i))) t.count
      ∙ sum_same size (λ i. part (who i) (stake_in l.stakes i)) (λ i. part (who i) (stake_in stakes i)) (λ i h. ap (part (who i)) (t.each i h))

  module _ (k : CertificateKind) (s b : ℕ) where
    abbrev pa : ℕ → Bool
    pa i = in_a k b (cell_at l s i)

    abbrev pb : ℕ → Bool
    pb i = in_b k b (cell_at l s i)

    abbrev who : ℕ → Bool
    who i = counts (signers_of k b) (cell_at l s i)

    -- The certificate by stored votes, over the stakes' own count.
    abbrev cert : Certificate
    cert = record { kind = number_in size k; slot = s; block = b; maska = mask_of pa size; maskb = mask_of pb size }

    cert_is : voted_for l k s b ≡ cert
    unfolding voted_for
    cert_is = ap (λ (n : ℕ). record { kind = number_in n k; slot = s; block = b; maska = mask_of pa n; maskb = mask_of pb n }) t.count

    no_mask_b : (w : Bool) → without_b k ≡ w → (w && not (none (mask_of pb size))) ≡ false
    no_mask_b true e = rw (mask_empty pb size (λ i. no_b k b (cell_at l s i) e))
    no_mask_b false e = refl

    signers_fine : bad_signers size k cert ≡ false
    unfolding bad_signers
    signers_fine =
        none_of (leb (2 ^ size) (mask_of pa size)) (leb (2 ^ size) (mask_of pb size)) (some_to size (λ n. bit (mask_of pa size) n && bit (mask_of pb size) n))
        (without_b k && not (none (mask_of pb size)))
        (lt-leb (2 ^ size) (mask_of pa size) (mask_lt pa size))
        (lt-leb (2 ^ size) (mask_of pb size) (mask_lt pb size))
        (masks_apart pa pb size (λ i h. never_both k b (cell_at l s i)))
        (no_mask_b (without_b k) refl)

    module _ (z : is_other_kind k ≡ false) where
      signed_weight_lem : signed_weight stakes cert ≡ weight stakes size who
      unfolding signed_weight signed
      signed_weight_lem = masks_weight stakes size pa pb ∙ weight_same stakes size (λ i. pa i || pb i) who (λ i h. who_counts k b (cell_at l s i) z)

      signed_count : count_of (signed cert) size ≡ count_of who size
      unfolding signed
      signed_count = masks_count size pa pb ∙ count_same size (λ i. pa i || pb i) who (λ i h. who_counts k b (cell_at l s i) z)

      heavy : reached l k s b ≡ true → reaches (fifths_of k) (total_to stakes size) (signed_weight stakes cert) ≡ true
      unfolding reached weighs weigh
      heavy h = ap₂ (reaches (fifths_of k)) (sym t.total) (signed_weight_lem ∙ sym (weight_is who)) ∙ h

      fine : slot_ok s ≡ true → block_misfits k b ≡ false → reached l k s b ≡ true → judge_kind stakes k cert ≡ Ok tt
      unfolding judge_kind judge_weight
      fine so m h =
          all_passed (is_other_kind k) (slot_ok s) (block_misfits k b) (bad_signers size k cert) (reaches (fifths_of k) (total_to stakes size) (signed_weight stakes cert)) _ z so m signers_fine (heavy h)

    -- ---- what is asked of a written certificate

    -- It is what was asked for, the checker accepts it, and answers how many it names, and their weight.
    record Asked (c : Certificate) : Type 0 where
      pub kind : c.kind ≡ number_in size k
      pub slot : c.slot ≡ s
      pub block : c.block ≡ b
      pub signers : bad_signers size k c ≡ false
      pub fine : judge_kind stakes k c ≡ Ok tt
      pub answer : accepted_of stakes c ≡ accepted_for l k s b

    abbrev answered : (ℕ → Bool) → Accepted
    answered p = record { kind = k; slot = record { 0 = s }; block = b; signers = count_of p l.count; weight = record { 0 = weight l.stakes l.count p } }

    -- The answer counts the signers over the stakes, whoever they are.
    answer_is : (c : Certificate) (p : ℕ → Bool) → c.kind ≡ number_in size k → c.slot ≡ s → c.block ≡ b → count_of (signed c) size ≡ count_of p size → signed_weight stakes c ≡ weight stakes size p
        → accepted_of stakes c ≡ answered p
    unfolding accepted_of
    answer_is c p ek es eb en ew =
        let kd : kind_in size c.kind ≡ k = ap (kind_in size) ek ∙ kind_back size k in
        let n : count_of (signed c) size ≡ count_of p l.count = en ∙ ap (count_of p) (sym t.count) in
        let w : signed_weight stakes c ≡ weight l.stakes l.count p = ew ∙ sym (weight_is p) in
        rw (n, w, kd, es, eb)

    voted_asked : is_other_kind k ≡ false → slot_ok s ≡ true → block_misfits k b ≡ false → reached l k s b ≡ true → Asked (voted_for l k s b)
    unfolding accepted_for signers_for
    voted_asked z so m h =
        subst Asked (sym cert_is)
        (record {
          kind = refl;
          slot = refl;
          block = refl;
          signers = signers_fine;
          fine = fine z so m h;
          answer = answer_is cert who refl refl refl (signed_count z) (signed_weight_lem z) ∙ ap answered (sym (choose_on (reached l k s b) who (signed (certificate_for l k s b)) h));
        })

    weighed : (c : Certificate) → signed_weight stakes c ≡ weight stakes size (signed c)
    unfolding signed_weight
    weighed c = refl

    kept_asked : is_other_kind k ≡ false → slot_ok s ≡ true → block_misfits k b ≡ false → reached l k s b ≡ false → (q : Kept) → Serving (certificates_at l s) k b q
        → certificate_for l k s b ≡ masked_by l k s b q → Asked (masked_by l k s b q)
    unfolding masked_by accepted_for signers_for
    kept_asked z so m off q v e =
        let c : Certificate = masked_by l k s b q in
        let i = v.place in
        let stands = subst (λ (x : Kept). is_kept x ≡ true) (sym v.stands) v.kept in
        let j = subst (λ (x : Kept). judge_kind stakes (place_kind i) (kept_in s x) ≡ Ok tt) v.stands (t.kept s i so stands) in
        let g = serves_judged stakes (place_kind i) k (kept_in s q) c v.serves z m refl refl refl j in
        let kd : c.kind ≡ number_in size k = ap (λ (n : ℕ). number_in n k) t.count in
        record {
          kind = kd;
          slot = refl;
          block = refl;
          signers = g.0;
          fine = g.1;
          answer = answer_is c (signed c) kd refl refl refl (weighed c)
              ∙ ap (λ (x : Certificate). answered (signed x)) (sym e) ∙ ap answered (sym (choose_off (reached l k s b) who (signed (certificate_for l k s b)) off));
        }

    abbrev taken : Kept
    taken = kept_for k b (certificates_at l s)

    by_votes_lem : reached l k s b ≡ true → certificate_for l k s b ≡ voted_for l k s b
    unfolding certificate_for
    by_votes_lem t = choose_on (reached l k s b) (voted_for l k s b) (masked_by l k s b taken) t

    by_masks : reached l k s b ≡ false → certificate_for l k s b ≡ masked_by l k s b taken
    unfolding certificate_for
    by_masks t = choose_off (reached l k s b) (voted_for l k s b) (masked_by l k s b taken) t

    serving : reached l k s b ≡ false → held l k s b ≡ true → Serving (certificates_at l s) k b taken
    unfolding held kept_as
    serving off h = kept_serving (certificates_at l s) k b (or_cases (reached l k s b) _ h (λ u. true_not_false (reached l k s b) u off) (λ u. u))

    asked : is_other_kind k ≡ false → slot_ok s ≡ true → block_misfits k b ≡ false → held l k s b ≡ true → Asked (certificate_for l k s b)
    asked z so m h =
        by_test (reached l k s b)
        (λ on. subst Asked (sym (by_votes_lem on)) (voted_asked z so m on))
        (λ off. subst Asked (sym (by_masks off)) (kept_asked z so m off taken (serving off h) (by_masks off)))

    -- ---- it is read back

    module _ (c : Certificate) (w : Asked c) where
      kind_at : kind_in size c.kind ≡ k
      kind_at = ap (kind_in size) w.kind ∙ kind_back size k

      judged_fine : judge stakes c ≡ Ok tt
      unfolding judge
      judged_fine = ap (λ (x : CertificateKind). judge_kind stakes x c) kind_at ∙ w.fine

      fits64 : is_other_kind k ≡ false → b < 2 ^ 64 → slot_ok s ≡ true → Fits64 c
      unfolding slot_ok
      fits64 z h so =
          let p : 2 ^ size ≤ 2 ^ (64 * words_in c.kind) = subst (λ (x : ℕ). 2 ^ size ≤ 2 ^ (64 * words_in x)) (sym w.kind) (pow_mono (kind_words size k z few)) in
          let q = leb-true s last_slot (and_both (leb 1 s) (leb s last_slot) so).1 in
          let m = judged_masks stakes k c w.signers in
          let big : 16 < 2 ^ 64 = lit< tt in
          record {
            kind = omega (arith, w.kind, kind_small size k, big);
            slot = omega (arith, w.slot, q, big);
            block = omega (arith, w.block, h);
            maska = omega (arith, m.0, p);
            maskb = omega (arith, m.1, p);
          }

      -- The certificate at the front of a packet.
      reads : is_other_kind k ≡ false → b < 2 ^ 64 → slot_ok s ≡ true → (rest : List ℕ) → certificate_at (certificate_bytes c ++ rest) 0 ≡ found.Whole c (length (certificate_bytes c))
      reads z h so rest =
          certificate_in_lem (certificate_bytes c ++ rest) [] c rest 0 refl refl (fits64 z h so) ∙ ap (found.Whole c) (zero-add (length (certificate_bytes c)))

      reads_alone : is_other_kind k ≡ false → b < 2 ^ 64 → slot_ok s ≡ true → certificate_at (certificate_bytes c) 0 ≡ found.Whole c (length (certificate_bytes c))
      reads_alone z h so =
          subst (λ (x : List ℕ). certificate_at x 0 ≡ found.Whole c (length (certificate_bytes c))) (append-nil (certificate_bytes c)) (reads z h so [])

-- ---- the two writers

module _ (l : Ledger) (stakes : List ℕ) (t : TableIs l stakes) where
  certificate_on_lem : (k : CertificateKind) (s b : ℕ) → b < 2 ^ 64 → is_other_kind k ≡ false → slot_ok s ≡ true → block_misfits k b ≡ false → held l k s b ≡ true
      → (parts (certificate_bytes (certificate_for l k s b)) ≡ certificate_for l k s b ∷ [])
      × (check_certificate stakes (certificate_bytes (certificate_for l k s b)) ≡ Ok (accepted_for l k s b))
  certificate_on_lem k s b h z so m hd =
      let c = certificate_for l k s b in
      let bytes = certificate_bytes c in
      let w = asked l stakes t k s b z so m hd in
      let r = reads_alone l stakes t k s b c w z h so in
      (parts_one bytes c r, accepts_one stakes bytes t.fits c (length bytes) r (judged_fine l stakes t k s b c w) refl ∙ ap Ok w.answer)

  fast_on : (s b : ℕ) → b < 2 ^ 64 → slot_ok s ≡ true → none b ≡ false → held l certificate.FastFinal s b ≡ true
      → (parts (certificate_bytes (certificate_for l certificate.FastFinal s b)) ≡ certificate_for l certificate.FastFinal s b ∷ [])
      × (check_proof stakes (certificate_bytes (certificate_for l certificate.FastFinal s b)) ≡ Ok (accepted_for l certificate.FastFinal s b))
  unfolding is_other_kind block_misfits
  fast_on s b h so m hd =
      let k = certificate.FastFinal in
      let c = certificate_for l k s b in
      let bytes = certificate_bytes c in
      let w = asked l stakes t k s b refl so m hd in
      let r = reads_alone l stakes t k s b c w refl h so in (
        parts_one bytes c r,
        accepts_fast stakes bytes t.fits c (length bytes) r (judged_fine l stakes t k s b c w) (kind_at l stakes t k s b c w) refl ∙ ap Ok w.answer,
      )

  slow_on : (s b : ℕ) → b < 2 ^ 64 → slot_ok s ≡ true → none b ≡ false → held l certificate.Notar s b ≡ true → held l certificate.Final s 0 ≡ true
      → (parts (certificate_bytes (certificate_for l certificate.Notar s b) ++ certificate_bytes (certificate_for l certificate.Final s 0))
      ≡ certificate_for l certificate.Notar s b ∷ certificate_for l certificate.Final s 0 ∷ [])
      × (check_proof stakes (certificate_bytes (certificate_for l certificate.Notar s b) ++ certificate_bytes (certificate_for l certificate.Final s 0))
      ≡ Ok (accepted_for l certificate.Notar s b))
  unfolding is_other_kind block_misfits
  slow_on s b h so m hn hf =
      let k = certificate.Notar in
      let c = certificate_for l k s b in
      let d = certificate_for l certificate.Final s 0 in
      let x = certificate_bytes c in
      let y = certificate_bytes d in
      let zero_lt : 0 < 2 ^ 64 = lit< tt in
      let w = asked l stakes t k s b refl so m hn in
      let v = asked l stakes t certificate.Final s 0 refl so refl hf in
      let r = reads l stakes t k s b c w refl h so y in
      let q = certificate_in_lem (x ++ y) x d [] (length x) (ap (λ (z : List ℕ). x ++ z) (sym (append-nil y))) refl (fits64 l stakes t certificate.Final s 0 d v refl zero_lt so) in (
        parts_two (x ++ y) c d (length x) (length x + length y) r q,
        accepts_slow stakes (x ++ y) t.fits c d (length x) (length x + length y) r (judged_fine l stakes t k s b c w) (kind_at l stakes t k s b c w) q
            (judged_fine l stakes t certificate.Final s 0 d v) v.kind (v.slot ∙ sym w.slot) (sym (length-append x y))
            ∙ ap Ok w.answer,
      )

pub certificate_back : CertificateBack
unfolding write_certificate certificate_verdict
certificate_back l stakes t room k s b n h e =
    let bytes = certificate_bytes (certificate_for l k s b) in
    let v = wrote_fine (certificate_verdict l room k s b) bytes n e in
    let p1 = refuse_fine (ltb room (certificate_room l.count)) refusal.NoRoom _ v in
    let p2 = refuse_fine (is_other_kind k) refusal.BadKind _ p1.1 in
    let p3 = refuse_fine (not (slot_ok s)) refusal.BadSlot _ p2.1 in
    let p4 = refuse_fine (block_misfits k b) refusal.BadBlock _ p3.1 in
    let p5 = refuse_fine (not (held l k s b)) refusal.NotHeld _ p4.1 in
    subst (λ (x : List ℕ). (parts x ≡ certificate_for l k s b ∷ []) × (check_certificate stakes x ≡ Ok (accepted_for l k s b)))
    (sym (wrote_bytes (certificate_verdict l room k s b) bytes v))
    (certificate_on_lem l stakes t k s b h p2.0 (not-false (slot_ok s) p3.0) p4.0 (not-false (held l k s b) p5.0))

-- What is promised of the bytes of a proof.
abbrev ProofOn : Ledger → List ℕ → ℕ → ℕ → List ℕ → List Certificate → CertificateKind → Type 0
ProofOn l stakes s b bytes certs k = (parts bytes ≡ certs) × (check_proof stakes bytes ≡ Ok (accepted_for l k s b))

pub proof_back : ProofBack
unfolding write_proof proof_verdict proof_bytes is_final proof_parts proof_kind
proof_back l stakes t room s b n h e =
    let fast = held l certificate.FastFinal s b in
    let slow = held l certificate.Notar s b && held l certificate.Final s 0 in
    let c1 = certificate_for l certificate.FastFinal s b in
    let c2 = certificate_for l certificate.Notar s b in
    let c5 = certificate_for l certificate.Final s 0 in
    let v = wrote_fine (proof_verdict l room s b) (proof_bytes l s b) n e in
    let p1 = refuse_fine (ltb room (proof_room l.count)) refusal.NoRoom _ v in
    let p2 = refuse_fine (not (slot_ok s)) refusal.BadSlot _ p1.1 in
    let p3 = refuse_fine (none b) refusal.BadBlock _ p2.1 in
    let p4 = refuse_fine (not (fast || slow)) refusal.NotHeld _ p3.1 in
    let so = not-false (slot_ok s) p2.0 in
    subst (λ (x : List ℕ). ProofOn l stakes s b x (proof_parts l s b) (proof_kind l s b)) (sym (wrote_bytes (proof_verdict l room s b) (proof_bytes l s b) v))
    (by_test fast
    (λ f. rw (given_on fast (certificate_bytes c2 ++ certificate_bytes c5) (λ _. certificate_bytes c1) f, given_on fast (c2 ∷ c5 ∷ []) (λ _. c1 ∷ []) f, choose_on fast certificate.FastFinal certificate.Notar f)
    (fast_on l stakes t s b h so p3.0 f))
    (λ f.
    let w = and_both (held l certificate.Notar s b) (held l certificate.Final s 0)
    (or_cases fast slow (not-false (fast || slow) p4.0) (λ q. true_not_false fast q f) (λ q. q)) in
    rw (given_off fast (certificate_bytes c2 ++ certificate_bytes c5) (λ _. certificate_bytes c1) f, given_off fast (c2 ∷ c5 ∷ []) (λ _. c1 ∷ []) f, choose_off fast certificate.FastFinal certificate.Notar f)
    (slow_on l stakes t s b h so p3.0 w.0 w.1)))
