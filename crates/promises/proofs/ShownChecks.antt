-- What the panel shows of the checkers' answers. Assumes nothing.
use Rattle.std.specs.Prelude.{⊤, Result, Ok, Err}
use mathlib.Core.Path.{◌≡◌, refl, sym, ap, ◌∙◌}
use mathlib.Core.Bool.{Bool, true, false, not, ◌&&◌}
use mathlib.Core.List.{List, [], ◌∷◌}
use Prim.Native.Nat.{ℕ}
use lib.ListN.{length, replicate}
use lib.Dec.{eqb, ltb}
use Rattle.rulebook.specs.declared.Accepted.{Accepted}
use Rattle.rulebook.specs.declared.CertificateKind.{CertificateKind}
use Rattle.rulebook.specs.declared.CertificateKind.TheVariants as certificate
use Rattle.rulebook.specs.declared.Refusal.{Refusal}
use Rattle.rulebook.specs.declared.Refusal.TheVariants as refusal
use Rattle.rulebook.specs.Certificates.{Certificate, Found}
use Rattle.rulebook.specs.Certificates as found
use Rattle.rulebook.specs.Tools.{whenever}
use Rattle.rulebook.specs.PaperNumbers.{kind_in, number_in, verdict_number, found_panel, check_number, check_values, check_panel, refusal_number}
use Rattle.rulebook.specs.Weights.{stakes_fit}
use Rattle.rulebook.specs.Inputs.{refuse_if}
use Rattle.rulebook.specs.Packets.{certificate_at}
use Rattle.rulebook.specs.Checker.{One, good, bad, judge_kind, judge, accepted_of, judged, one_of, one_at, ended, single_of, check_certificate, second_of, first_in, proof_of, check_proof}
use Rattle.rule_laws.proofs.ToolLaws.{given_on}
use Rattle.rule_laws.proofs.RuleLaws.{refuse_fine}
use Rattle.rule_laws.proofs.KindLaws.{number_back}
use Rattle.rule_laws.proofs.AcceptedLaws.{Proven, one, two, accepted_single, accepted_proof}
use Rattle.promises.specs.Panels.{beside_it, shown, else_then, whole_then, nothing_after, certificate_checked, first_then, second_checked, proof_checked, told_of, CertificateCheckShown, ProofCheckShown}

-- A kind that passes has the number that it was read from.
kind_fine : (stakes : List ℕ) (c : Certificate) → judge stakes c ≡ Ok tt → number_in (length stakes) (kind_in (length stakes) c.kind) ≡ c.kind
unfolding judge judge_kind
kind_fine stakes c e = number_back (length stakes) c.kind (refuse_fine _ _ _ e).0

-- An accepted check tells what stands in the certificate at the packet's front.
accepted_shown : (stakes packet : List ℕ) (c : Certificate) (next : ℕ) (a : Accepted) → certificate_at packet 0 ≡ found.Whole c next → judge stakes c ≡ Ok tt
    → accepted_of stakes c ≡ a → check_panel (length stakes) (Ok a) ≡ shown (Ok tt) (told_of stakes (certificate_at packet 0))
unfolding check_number check_values shown beside_it verdict_number told_of accepted_of
accepted_shown stakes packet c next a r j e =
    ap (λ (x : Accepted). check_panel (length stakes) (Ok x)) (sym e)
    ∙ (λ i. record { number = 0; values = kind_fine stakes c j i ∷ (accepted_of stakes c).slot.0 ∷ (accepted_of stakes c).block ∷ (accepted_of stakes c).signers ∷ (accepted_of stakes c).weight.0 ∷ [] })
    ∙ ap (λ (x : Found). shown (Ok tt) (told_of stakes x)) (sym r)

told_five_lem : (stakes : List ℕ) (x : Found) → length (told_of stakes x) ≡ 5
unfolding told_of
told_five_lem stakes (found.Whole c next) = refl
told_five_lem stakes found.Early = refl
told_five_lem stakes found.Malformed = refl

-- Five zeros beside a refusal.
pub refusal_shown : (stakes : List ℕ) (x : Found) (r : Refusal) → check_panel (length stakes) (Err r) ≡ shown (Err r) (told_of stakes x)
unfolding check_number check_values shown beside_it verdict_number
refusal_shown stakes x r = ap (λ (n : ℕ). record { number = refusal_number r; values = replicate n 0 }) (sym (told_five_lem stakes x))

-- What either checker says of a packet whose front cannot be read.
unread : (stakes : List ℕ) (x : Found) (read : One → Result Accepted Refusal) → ((r : Refusal) → read (bad r) ≡ Err r) → ¬ ((found_panel x).number ≡ 0)
    → check_number (read (one_of stakes x)) ≡ (found_panel x).number
unfolding found_panel one_of check_number check_values refusal_number
unread stakes (found.Whole c next) read f ne = absurd (ne refl)
unread stakes found.Early read f ne = ap check_number (f refusal.BadLength)
unread stakes found.Malformed read f ne = ap check_number (f refusal.BadNumber)

-- Whether a check refused, and with what.
check_verdict : Result Accepted Refusal → Result ⊤ Refusal
check_verdict (Ok a) = Ok tt
check_verdict (Err r) = Err r

tested : (t : Bool) (r : Refusal) (f : Unit {0} → Result Accepted Refusal) → check_verdict (whenever t f (Err r)) ≡ refuse_if (not t) r (check_verdict (f tt))
unfolding whenever refuse_if check_verdict
tested true r f = refl
tested false r f = refl

judged_then : (v : Result ⊤ Refusal) (c : Certificate) (n : ℕ) (read : One → Result Accepted Refusal) → ((r : Refusal) → read (bad r) ≡ Err r)
    → check_verdict (read (judged v c n)) ≡ else_then v (check_verdict (read (good c n)))
unfolding judged else_then check_verdict
judged_then (Ok tt) c n read f = refl
judged_then (Err r) c n read f = ap check_verdict (f r)

whole_judged : (stakes : List ℕ) (x : Found) (read : One → Result Accepted Refusal) → ((r : Refusal) → read (bad r) ≡ Err r)
    → check_verdict (read (one_of stakes x)) ≡ whole_then stakes x (λ c n. check_verdict (read (good c n)))
unfolding one_of whole_then check_verdict
whole_judged stakes (found.Whole c n) read f = judged_then (judge stakes c) c n read f
whole_judged stakes found.Early read f = ap check_verdict (f refusal.BadLength)
whole_judged stakes found.Malformed read f = ap check_verdict (f refusal.BadNumber)

whole_same : (stakes : List ℕ) (x : Found) (f g : Certificate → ℕ → Result ⊤ Refusal) → ((c : Certificate) (n : ℕ) → f c n ≡ g c n) → whole_then stakes x f ≡ whole_then stakes x g
unfolding whole_then
whole_same stakes (found.Whole c n) f g e = ap (else_then (judge stakes c)) (e c n)
whole_same stakes found.Early f g e = refl
whole_same stakes found.Malformed f g e = refl

double_not : (t : Bool) → not (not t) ≡ t
double_not true = refl
double_not false = refl

ended_judged : (stakes packet : List ℕ) (c : Certificate) (n : ℕ) → check_verdict (ended stakes packet c n) ≡ nothing_after packet n
unfolding ended nothing_after check_verdict
ended_judged stakes packet c n =
    tested (not (ltb n (length packet))) refusal.BadLength (λ _. Ok (accepted_of stakes c))
    ∙ ap (λ (t : Bool). refuse_if t refusal.BadLength (Ok tt)) (double_not (ltb n (length packet)))

certificate_judged : (stakes packet : List ℕ) → check_verdict (check_certificate stakes packet) ≡ certificate_checked stakes packet
unfolding check_certificate certificate_checked one_at single_of
certificate_judged stakes packet =
    tested (stakes_fit stakes (length stakes)) refusal.BadSizes (λ _. single_of stakes packet (one_at stakes packet 0))
    ∙ ap (refuse_if (not (stakes_fit stakes (length stakes))) refusal.BadSizes)
    (whole_judged stakes (certificate_at packet 0) (single_of stakes packet) (λ r. refl)
    ∙ whole_same stakes (certificate_at packet 0) _ _ (λ c n. ended_judged stakes packet c n))

second_judged : (stakes packet : List ℕ) (c : Certificate) (n : ℕ) → check_verdict (second_of stakes packet c (one_at stakes packet n)) ≡ second_checked stakes packet c n
unfolding second_of one_at second_checked
second_judged stakes packet c n =
    whole_judged stakes (certificate_at packet n) (second_of stakes packet c) (λ r. refl)
    ∙ whole_same stakes (certificate_at packet n) _ _
    (λ d m.
    tested (eqb d.kind (number_in (length stakes) certificate.Final) && eqb d.slot c.slot) refusal.NotAProof (λ _. ended stakes packet c m)
    ∙ ap (refuse_if (not (eqb d.kind (number_in (length stakes) certificate.Final) && eqb d.slot c.slot)) refusal.NotAProof) (ended_judged stakes packet c m))

first_judged : (stakes packet : List ℕ) (k : CertificateKind) (c : Certificate) (n : ℕ)
    → check_verdict (first_in stakes packet k c n) ≡ first_then k (nothing_after packet n) (second_checked stakes packet c n)
unfolding first_in first_then check_verdict
first_judged stakes packet certificate.FastFinal c n = ended_judged stakes packet c n
first_judged stakes packet certificate.Notar c n = second_judged stakes packet c n
first_judged stakes packet certificate.NotarFallback c n = refl
first_judged stakes packet certificate.Skip c n = refl
first_judged stakes packet certificate.Final c n = refl
first_judged stakes packet certificate.Other c n = refl

proof_judged : (stakes packet : List ℕ) → check_verdict (check_proof stakes packet) ≡ proof_checked stakes packet
unfolding check_proof proof_checked one_at proof_of
proof_judged stakes packet =
    tested (stakes_fit stakes (length stakes)) refusal.BadSizes (λ _. proof_of stakes packet (one_at stakes packet 0))
    ∙ ap (refuse_if (not (stakes_fit stakes (length stakes))) refusal.BadSizes)
    (whole_judged stakes (certificate_at packet 0) (proof_of stakes packet) (λ r. refl)
    ∙ whole_same stakes (certificate_at packet 0) _ _ (λ c n. first_judged stakes packet (kind_in (length stakes) c.kind) c n))

certificate_panel : (stakes packet : List ℕ) (a : Result Accepted Refusal) → check_certificate stakes packet ≡ a
    → check_panel (length stakes) a ≡ shown (check_verdict a) (told_of stakes (certificate_at packet 0))
unfolding check_verdict
certificate_panel stakes packet (Ok x) e =
    let p = accepted_single stakes packet x e in accepted_shown stakes packet p.first (length packet) x p.read p.fine p.answer
certificate_panel stakes packet (Err r) e = refusal_shown stakes (certificate_at packet 0) r

pub certificate_check_shown : CertificateCheckShown
unfolding check_certificate one_at single_of
certificate_check_shown stakes packet a e =
    record {
      panel =
          certificate_panel stakes packet a (sym e)
          ∙ ap (λ (v : Result ⊤ Refusal). shown v (told_of stakes (certificate_at packet 0))) (ap check_verdict e ∙ certificate_judged stakes packet);
      unread = λ f ne.
          ap check_number (e ∙ given_on _ _ _ f)
          ∙ unread stakes (certificate_at packet 0) (single_of stakes packet) (λ r. refl) ne;
    }

proven_shown : (stakes packet : List ℕ) (x : Accepted) → Proven stakes packet x → check_panel (length stakes) (Ok x) ≡ shown (Ok tt) (told_of stakes (certificate_at packet 0))
proven_shown stakes packet x (one c e j k q) = accepted_shown stakes packet c (length packet) x e j q
proven_shown stakes packet x (two c d n e j k f i l t q) = accepted_shown stakes packet c n x e j q

proof_panel : (stakes packet : List ℕ) (a : Result Accepted Refusal) → check_proof stakes packet ≡ a
    → check_panel (length stakes) a ≡ shown (check_verdict a) (told_of stakes (certificate_at packet 0))
unfolding check_verdict
proof_panel stakes packet (Ok x) e = proven_shown stakes packet x (accepted_proof stakes packet x e)
proof_panel stakes packet (Err r) e = refusal_shown stakes (certificate_at packet 0) r

pub proof_check_shown : ProofCheckShown
unfolding check_proof one_at proof_of
proof_check_shown stakes packet a e =
    record {
      panel =
          proof_panel stakes packet a (sym e)
          ∙ ap (λ (v : Result ⊤ Refusal). shown v (told_of stakes (certificate_at packet 0))) (ap check_verdict e ∙ proof_judged stakes packet);
      unread = λ f ne.
          ap check_number (e ∙ given_on _ _ _ f)
          ∙ unread stakes (certificate_at packet 0) (proof_of stakes packet) (λ r. refl) ne;
    }
