-- No certificate is reached or refused that was not before, and the figure beside 15 is the least that would do. Assumes nothing.
use Rattle.std.specs.Prelude.{⊤, Result, Ok, Err}
use mathlib.Core.Path.{◌≡◌, refl, sym, ap, ◌∙◌, subst}
use mathlib.Core.Bool.{Bool, true, false, not, ◌&&◌, ◌||◌}
use mathlib.Core.List.{List}
use Prim.Native.Nat.{ℕ, ◌+◌, ◌≤◌}
use native.Mathlib.Omega.{arith}
use lib.ListN.{length}
use lib.Dec.{eqb, ltb}
use Rattle.rulebook.specs.declared.Accepted.{Accepted}
use Rattle.rulebook.specs.declared.CertificateKind.{CertificateKind}
use Rattle.rulebook.specs.declared.CertificateKind.TheVariants as certificate
use Rattle.rulebook.specs.declared.Refusal.{Refusal}
use Rattle.rulebook.specs.declared.Refusal.TheVariants as refusal
use Rattle.rulebook.specs.Certificates.{Certificate, Found}
use Rattle.rulebook.specs.Certificates as found
use Rattle.rulebook.specs.Tools.{choose, whenever}
use Rattle.rulebook.specs.Weights.{reaches, total_to, slot_ok, stakes_fit}
use Rattle.rulebook.specs.PaperNumbers.{kind_in, number_in, refusal_number, refusal_missing, verdict_number, check_number, check_missing}
use Rattle.rulebook.specs.Pool.{weigh, weighs, signers_of, fifths_of, reached, kept_as, held, missing_to}
use Rattle.rulebook.specs.Inputs.{refuse_if}
use Rattle.rulebook.specs.Packets.{certificate_at}
use Rattle.rulebook.specs.Checker.{One, good, bad, is_other_kind, block_misfits, bad_signers, signed_weight, lacking, judge_weight, judge_kind, judge, accepted_of, judged, one_of, one_at, ended, single_of, check_certificate, second_of, first_in, proof_of, check_proof}
use Rattle.rule_laws.proofs.WeightLaws.{reaches_fact, short_fact, missing_enough, missing_least, reached_missing}
use Rattle.promises.specs.Figures.{Least, ReachedAsBefore, first_failed, JudgedAsBefore, FirstOf, first, OneOf, the_first, the_second, ShortBy, FigureTold, CertificateFigure, ProofFigure, FaceCertificateFigure, FaceProofFigure}

-- ---- certificates that the stored votes reach

pub reached_as_before : ReachedAsBefore
unfolding reached held weighs reaches missing_to
reached_as_before l k s b =
    let w = weigh l s (signers_of k b) in
    record {
      as_before = refl;
      nothing_missing = reached_missing l k s b;
      or_kept = ap (λ (t : Bool). t || kept_as l k s b) (reached_missing l k s b);
      least =
          record {
            enough = reaches_fact (fifths_of k) l.total (w + missing_to l k s b) (missing_enough (fifths_of k) l.total w);
            no_less = λ y h. short_fact (fifths_of k) l.total (w + y) (missing_least (fifths_of k) l.total w y h);
          };
    }

-- ---- certificates judged

number_then_lem : (t : Bool) (r : Refusal) (v : Result ⊤ Refusal) → verdict_number (refuse_if t r v) ≡ choose t (refusal_number r) (verdict_number v)
unfolding refuse_if choose verdict_number
number_then_lem true r v = refl
number_then_lem false r v = refl

pub judged_as_before : JudgedAsBefore
unfolding judge judge_kind judge_weight reaches first_failed verdict_number refusal_number
judged_as_before stakes c =
    let k = kind_in (length stakes) c.kind in
    let size = length stakes in
    number_then_lem (is_other_kind k) refusal.BadKind _
    ∙ ap (choose (is_other_kind k) 4)
    (number_then_lem (not (slot_ok c.slot)) refusal.BadSlot _
    ∙ ap (choose (not (slot_ok c.slot)) 3)
    (number_then_lem (block_misfits k c.block) refusal.BadBlock _
    ∙ ap (choose (block_misfits k c.block) 5)
    (number_then_lem (bad_signers size k c) refusal.BadSigners _
    ∙ ap (choose (bad_signers size k c) 14) (number_then_lem _ _ (Ok tt)))))

-- ---- the figure of one certificate

no_figure : (r : Refusal) → ¬ (refusal_number r ≡ 15) → refusal_missing r ≡ 0
unfolding refusal_number refusal_missing
no_figure refusal.BadSizes ne = refl
no_figure refusal.BadNode ne = refl
no_figure refusal.BadSlot ne = refl
no_figure refusal.BadKind ne = refl
no_figure refusal.BadBlock ne = refl
no_figure refusal.OwnName ne = refl
no_figure refusal.AlreadyKept ne = refl
no_figure refusal.OtherStands ne = refl
no_figure refusal.NoRoom ne = refl
no_figure refusal.NotArmed ne = refl
no_figure refusal.BadParent ne = refl
no_figure refusal.BadLength ne = refl
no_figure refusal.BadNumber ne = refl
no_figure refusal.BadSigners ne = refl
no_figure (refusal.TooLight missing) ne = absurd (ne refl)
no_figure refusal.NotAProof ne = refl
no_figure refusal.BadRecord ne = refl
no_figure refusal.NotHeld ne = refl

-- Another refusal than 15.
Other : Refusal → Type 0
Other r = ¬ (refusal_number r ≡ 15)

kind_other : Other refusal.BadKind
unfolding Other refusal_number
kind_other e = absurd (omega (arith, e))

slot_other : Other refusal.BadSlot
unfolding Other refusal_number
slot_other e = absurd (omega (arith, e))

block_other : Other refusal.BadBlock
unfolding Other refusal_number
block_other e = absurd (omega (arith, e))

signers_other : Other refusal.BadSigners
unfolding Other refusal_number
signers_other e = absurd (omega (arith, e))

sizes_other : Other refusal.BadSizes
unfolding Other refusal_number
sizes_other e = absurd (omega (arith, e))

length_other : Other refusal.BadLength
unfolding Other refusal_number
length_other e = absurd (omega (arith, e))

number_other : Other refusal.BadNumber
unfolding Other refusal_number
number_other e = absurd (omega (arith, e))

proof_other : Other refusal.NotAProof
unfolding Other refusal_number
proof_other e = absurd (omega (arith, e))

-- 15 was given by a later test.
later : (t : Bool) (r q : Refusal) (v : Result ⊤ Refusal) → Other r → refuse_if t r v ≡ Err q → refusal_number q ≡ 15 → v ≡ Err q
unfolding refuse_if Other
later true r q v ne e f = let g : r ≡ q = cc in absurd (ne (ap refusal_number g ∙ f))
later false r q v ne e f = e

-- What is told of a certificate that is refused with 15.
weight_light : (stakes : List ℕ) (k : CertificateKind) (c : Certificate) (t : Bool) (q : Refusal)
    → reaches (fifths_of k) (total_to stakes (length stakes)) (signed_weight stakes c) ≡ t
    → refuse_if (not t) (refusal.TooLight (record { 0 = lacking stakes k c })) (Ok tt) ≡ Err q
    → (1 ≤ refusal_missing q) × Least (fifths_of k) (total_to stakes (length stakes)) (signed_weight stakes c) (refusal_missing q)
unfolding refuse_if refusal_missing lacking
weight_light stakes k c true q r e = absurd cc
weight_light stakes k c false q r e =
    let f = fifths_of k in
    let t = total_to stakes (length stakes) in
    let w = signed_weight stakes c in
    let g : refusal.TooLight (record { 0 = lacking stakes k c }) ≡ q = cc in
    let enough = reaches_fact f t (w + lacking stakes k c) (missing_enough f t w) in
    subst (λ (x : Refusal). (1 ≤ refusal_missing x) × Least f t w (refusal_missing x)) g (
      omega (arith, enough, short_fact f t w r),
      record { enough = enough; no_less = λ y h. short_fact f t (w + y) (missing_least f t w y h) },
    )

judge_light : (stakes : List ℕ) (c : Certificate) (q : Refusal) → judge stakes c ≡ Err q → refusal_number q ≡ 15 → ShortBy stakes c (refusal_missing q)
unfolding judge judge_kind judge_weight
judge_light stakes c q e f =
    let k = kind_in (length stakes) c.kind in
    let p = later (is_other_kind k) refusal.BadKind q _ kind_other e f in
    let s = later (not (slot_ok c.slot)) refusal.BadSlot q _ slot_other p f in
    let b = later (block_misfits k c.block) refusal.BadBlock q _ block_other s f in
    let m = later (bad_signers (length stakes) k c) refusal.BadSigners q _ signers_other b f in
    let l = weight_light stakes k c _ q refl m in
    record { some = l.0; least = l.1 }

-- One certificate of a packet that is refused with 15 was read, and is light.
light_read : (stakes : List ℕ) (x : Found) (q : Refusal) → one_of stakes x ≡ bad q → refusal_number q ≡ 15
    → (c : Certificate) × (n : ℕ) × (x ≡ found.Whole c n) × ShortBy stakes c (refusal_missing q)
unfolding one_of Other judged
light_read stakes (found.Whole c n) q e f = (c, n, refl, judge_light stakes c q (go (judge stakes c) e) f)
  where
    go : (v : Result ⊤ Refusal) → judged v c n ≡ bad q → v ≡ Err q
    go (Ok tt) d = absurd cc
    go (Err r) d = let g : r ≡ q = cc in ap Err g
light_read stakes found.Early q e f = let g : refusal.BadLength ≡ q = cc in absurd (length_other (ap refusal_number g ∙ f))
light_read stakes found.Malformed q e f = let g : refusal.BadNumber ≡ q = cc in absurd (number_other (ap refusal_number g ∙ f))

-- ---- a check's answer

-- An answer of number 15 is a refusal that is given so.
Refuses : Result Accepted Refusal → Refusal → Type 0
Refuses a q = (a ≡ Err q) × (refusal_number q ≡ 15)

told_zero_lem : (a : Result Accepted Refusal) → ¬ (check_number a ≡ 15) → check_missing a ≡ 0
unfolding check_number check_missing
told_zero_lem (Ok x) ne = refl
told_zero_lem (Err r) ne = no_figure r ne

given_later : (t : Bool) (r : Refusal) (f : Unit {0} → Result Accepted Refusal) → Other r → check_number (whenever t f (Err r)) ≡ 15
    → whenever t f (Err r) ≡ f tt
unfolding whenever check_number Other
given_later true r f ne e = refl
given_later false r f ne e = absurd (ne e)

accepted_never : {X : Type 0} (x : Accepted) → check_number (Ok x) ≡ 15 → X
unfolding check_number
accepted_never x e = absurd (omega (arith, e))

ended_never : {X : Type 0} (stakes packet : List ℕ) (c : Certificate) (n : ℕ) → check_number (ended stakes packet c n) ≡ 15 → X
unfolding ended
ended_never stakes packet c n e =
    let g = given_later (not (ltb n (length packet))) refusal.BadLength (λ _. Ok (accepted_of stakes c)) length_other e in
    accepted_never (accepted_of stakes c) (ap check_number (sym g) ∙ e)

refused_never : {X : Type 0} (r : Refusal) → Other r → check_number (Err r) ≡ 15 → X
unfolding check_number Other
refused_never r ne e = absurd (ne e)

single_light : (stakes packet : List ℕ) (o : One) → check_number (single_of stakes packet o) ≡ 15
    → (q : Refusal) × (o ≡ bad q) × Refuses (single_of stakes packet o) q
unfolding single_of Refuses check_number
single_light stakes packet (good c n) e = ended_never stakes packet c n e
single_light stakes packet (bad r) e = (r, refl, (refl, e))

second_light : (stakes packet : List ℕ) (c : Certificate) (o : One) → check_number (second_of stakes packet c o) ≡ 15
    → (q : Refusal) × (o ≡ bad q) × Refuses (second_of stakes packet c o) q
unfolding second_of Refuses check_number
second_light stakes packet c (good d n) e =
    let g = given_later (eqb d.kind (number_in (length stakes) certificate.Final) && eqb d.slot c.slot) refusal.NotAProof (λ _. ended stakes packet c n) proof_other e in
    ended_never stakes packet c n (ap check_number (sym g) ∙ e)
second_light stakes packet c (bad r) e = (r, refl, (refl, e))

-- Only a proof whose first certificate is of kind 2 comes to a second.
first_light : (stakes packet : List ℕ) (k : CertificateKind) (c : Certificate) (n : ℕ) → check_number (first_in stakes packet k c n) ≡ 15
    → (q : Refusal) × (one_at stakes packet n ≡ bad q) × Refuses (first_in stakes packet k c n) q
unfolding first_in
first_light stakes packet certificate.FastFinal c n e = ended_never stakes packet c n e
first_light stakes packet certificate.Notar c n e = second_light stakes packet c (one_at stakes packet n) e
first_light stakes packet certificate.NotarFallback c n e = refused_never refusal.NotAProof proof_other e
first_light stakes packet certificate.Skip c n e = refused_never refusal.NotAProof proof_other e
first_light stakes packet certificate.Final c n e = refused_never refusal.NotAProof proof_other e
first_light stakes packet certificate.Other c n e = refused_never refusal.NotAProof proof_other e

-- The figure of an answer that refuses.
figure_is : (stakes : List ℕ) (c : Certificate) (a : Result Accepted Refusal) (q : Refusal) → Refuses a q → ShortBy stakes c (refusal_missing q) → ShortBy stakes c (check_missing a)
unfolding Refuses check_missing
figure_is stakes c a q r l = subst (λ (x : Result Accepted Refusal). ShortBy stakes c (check_missing x)) (sym r.0) l

-- ---- one certificate

certificate_light : (stakes packet : List ℕ) → check_number (check_certificate stakes packet) ≡ 15
    → (c : Certificate) × FirstOf packet c × ShortBy stakes c (check_missing (check_certificate stakes packet))
unfolding check_certificate one_at Refuses
certificate_light stakes packet e =
    let g = given_later (stakes_fit stakes (length stakes)) refusal.BadSizes (λ _. single_of stakes packet (one_at stakes packet 0)) sizes_other e in
    let s = single_light stakes packet (one_at stakes packet 0) (ap check_number (sym g) ∙ e) in
    let r = light_read stakes (certificate_at packet 0) s.0 s.1 s.2.1 in
    let l = figure_is stakes r.0 (single_of stakes packet (one_at stakes packet 0)) s.0 s.2 r.3 in
    (r.0, first r.1 r.2, subst (λ (a : Result Accepted Refusal). ShortBy stakes r.0 (check_missing a)) (sym g) l)

pub certificate_figure : CertificateFigure
certificate_figure stakes packet a e =
    subst (λ (x : Result Accepted Refusal). FigureTold stakes (FirstOf packet) (check_number x) (check_missing x)) (sym e)
    (record { otherwise = told_zero_lem (check_certificate stakes packet); too_light = certificate_light stakes packet })

-- ---- a proof

-- A certificate that is good passed its tests and was read.
good_read : (stakes : List ℕ) (x : Found) (c : Certificate) (n : ℕ) → one_of stakes x ≡ good c n → (x ≡ found.Whole c n) × (judge stakes c ≡ Ok tt)
unfolding one_of judged
good_read stakes (found.Whole d m) c n e = go (judge stakes d) refl e
  where
    go : (v : Result ⊤ Refusal) → judge stakes d ≡ v → judged v d m ≡ good c n → (found.Whole d m ≡ found.Whole c n) × (judge stakes c ≡ Ok tt)
    go (Ok tt) j q = let p : d ≡ c = cc in let r : m ≡ n = cc in ((λ i. found.Whole (p i) (r i)), subst (λ (x : Certificate). judge stakes x ≡ Ok tt) p j)
    go (Err r) j q = absurd cc
good_read stakes found.Early c n e = absurd cc
good_read stakes found.Malformed c n e = absurd cc

refused_number : (q : Refusal) → check_number (Err q) ≡ 15 → refusal_number q ≡ 15
unfolding check_number
refused_number q e = e

-- The answer by the first certificate, light or good.
read_light : (stakes packet : List ℕ) (o : One) → one_at stakes packet 0 ≡ o → check_number (proof_of stakes packet o) ≡ 15
    → (c : Certificate) × OneOf stakes packet c × ShortBy stakes c (check_missing (proof_of stakes packet o))
unfolding proof_of one_at Refuses
read_light stakes packet (good d n) g e =
    let s = first_light stakes packet (kind_in (length stakes) d.kind) d n e in
    let h = good_read stakes (certificate_at packet 0) d n g in
    let r = light_read stakes (certificate_at packet n) s.0 s.1 s.2.1 in
    (r.0, the_second d n r.1 h.0 h.1 r.2, figure_is stakes r.0 (first_in stakes packet (kind_in (length stakes) d.kind) d n) s.0 s.2 r.3)
read_light stakes packet (bad q) g e =
    let r = light_read stakes (certificate_at packet 0) q g (refused_number q e) in
    (r.0, the_first (first r.1 r.2), figure_is stakes r.0 (Err q) q (refl, refused_number q e) r.3)

proof_light : (stakes packet : List ℕ) → check_number (check_proof stakes packet) ≡ 15
    → (c : Certificate) × OneOf stakes packet c × ShortBy stakes c (check_missing (check_proof stakes packet))
unfolding check_proof
proof_light stakes packet e =
    let g = given_later (stakes_fit stakes (length stakes)) refusal.BadSizes (λ _. proof_of stakes packet (one_at stakes packet 0)) sizes_other e in
    let s = read_light stakes packet (one_at stakes packet 0) refl (ap check_number (sym g) ∙ e) in
    (s.0, s.1, subst (λ (a : Result Accepted Refusal). ShortBy stakes s.0 (check_missing a)) (sym g) s.2)

pub proof_figure : ProofFigure
proof_figure stakes packet a e =
    subst (λ (x : Result Accepted Refusal). FigureTold stakes (OneOf stakes packet) (check_number x) (check_missing x)) (sym e)
    (record { otherwise = told_zero_lem (check_proof stakes packet); too_light = proof_light stakes packet })

-- ---- the same at the face

moved : (stakes : List ℕ) (Judged : Certificate → Type 0) (n m x y : ℕ) → n ≡ m → x ≡ y → FigureTold stakes Judged m y → FigureTold stakes Judged n x
moved stakes Judged n m x y p q f = rw (p, q) f

pub face_certificate_figure : FaceCertificateFigure
face_certificate_figure stakes packet number values missing h =
    moved stakes (FirstOf packet) _ _ _ _ h.numbered h.lacked (certificate_figure stakes packet (check_certificate stakes packet) refl)

pub face_proof_figure : FaceProofFigure
face_proof_figure stakes packet number values missing h =
    moved stakes (OneOf stakes packet) _ _ _ _ h.numbered h.lacked (proof_figure stakes packet (check_proof stakes packet) refl)
