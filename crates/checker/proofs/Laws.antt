-- Laws of a packet: whether a table is made from the lent stakes, and the answer from what is told of its certificates. Assumes nothing.
use Rattle.std.specs.Prelude.{Result, Err}
use mathlib.Core.Path.{◌≡◌, refl, sym, ap, ◌∙◌}
use mathlib.Core.Bool.{Bool, true, false}
use mathlib.Core.List.{List}
use Prim.Native.Nat.{ℕ, ◌+◌, ◌-◌}
use native.Mathlib.Omega.{arith}
use lib.ListN.{length}
use lib.Dec.{eqb}
use borrow.Author.Tests.{eq-eqb, ne_eqb, eqb-true, eqb-false}
use Rattle.rulebook.specs.Certificates.{Certificate}
use Rattle.rulebook.specs.declared.CertificateKind.{CertificateKind}
use Rattle.rulebook.specs.declared.CertificateKind.TheVariants as certificate
use Rattle.rulebook.specs.declared.Refusal.TheVariants as refusal
use Rattle.rulebook.specs.Tools.{choose}
use Rattle.rulebook.specs.Weights.{stakes_fit, family}
use Rattle.rulebook.specs.PaperNumbers.{certificate_kind, certificate_number, kind_in, number_in}
use Rattle.rulebook.specs.Checker.{One, good, bad, accepted_of, one_at, ended, single_of, second_of, first_in, proof_of, check_certificate, check_proof}
use Rattle.rule_laws.proofs.ToolLaws.{given_on, given_off, by_test}
use Rattle.certificates.specs.Told.{told}
use Rattle.checker.specs.InPacket.{finished, alone, is_final_kind, followed, continued, proven, single_on, proven_on}
use Rattle.rulebook.specs.declared.Accepted.{Accepted}
use Rattle.rulebook.specs.declared.Refusal.{Refusal}

-- Of the numbers 1 to 5 it is 5.
old_final : (n : ℕ) → is_final_kind (certificate_kind n) ≡ eqb n 5
unfolding certificate_kind choose is_final_kind
old_final n = one (eqb n 1) refl
  where
    last : (e : Bool) → is_final_kind (choose e certificate.Final certificate.Other) ≡ e
    last true = refl
    last false = refl

    apart : (k : ℕ) → eqb n k ≡ true → (k ≡ 5 → ⊥) → false ≡ eqb n 5
    apart k q f = sym (ne_eqb n 5 (λ z. f (sym (eqb-true n k q) ∙ z)))

    four : (d : Bool) → eqb n 4 ≡ d → is_final_kind (choose d certificate.Skip (choose (eqb n 5) certificate.Final certificate.Other)) ≡ eqb n 5
    four true q = apart 4 q (λ z. omega arith)
    four false q = last (eqb n 5)

    three : (d : Bool) → eqb n 3 ≡ d
        → is_final_kind (choose d certificate.NotarFallback (choose (eqb n 4) certificate.Skip (choose (eqb n 5) certificate.Final certificate.Other))) ≡ eqb n 5
    three true q = apart 3 q (λ z. omega arith)
    three false q = four (eqb n 4) refl

    two : (d : Bool) → eqb n 2 ≡ d
        → is_final_kind (choose d certificate.Notar (choose (eqb n 3) certificate.NotarFallback (choose (eqb n 4) certificate.Skip (choose (eqb n 5) certificate.Final certificate.Other)))) ≡ eqb n 5
    two true q = apart 2 q (λ z. omega arith)
    two false q = three (eqb n 3) refl

    one : (d : Bool) → eqb n 1 ≡ d
        → is_final_kind (choose d certificate.FastFinal (choose (eqb n 2) certificate.Notar (choose (eqb n 3) certificate.NotarFallback (choose (eqb n 4) certificate.Skip (choose (eqb n 5) certificate.Final certificate.Other))))) ≡ eqb n 5
    one true q = apart 1 q (λ z. omega arith)
    one false q = two (eqb n 2) refl

above_final : (n f : ℕ) → eqb (n - f) 5 ≡ eqb n (5 + f)
above_final n f =
    by_test (eqb (n - f) 5)
    (λ e. e ∙ sym (eq-eqb n (5 + f) (omega (arith, eqb-true (n - f) 5 e))))
    (λ e. e ∙ sym (ne_eqb n (5 + f) (λ z. eqb-false (n - f) 5 e (omega (arith, z)))))

-- A number stands for kind 5 of a table exactly where it is that kind's.
kind_final : (count n : ℕ) → is_final_kind (kind_in count n) ≡ eqb n (number_in count certificate.Final)
unfolding kind_in number_in certificate_number
kind_final count n = old_final (n - family count) ∙ above_final n (family count)

-- A packet that is to be one certificate.
pub alone_is : (ws packet : List ℕ) (o : One) → single_of ws packet o ≡ alone (length packet) (told ws o)
unfolding single_of ended alone told finished
alone_is ws packet (good c next) = refl
alone_is ws packet (bad r) = refl

-- The second certificate of a proof.
second_is : (ws packet : List ℕ) (c : Certificate) (o : One) → second_of ws packet c o ≡ followed (accepted_of ws c) (length packet) (told ws o)
unfolding second_of ended followed told finished accepted_of
second_is ws packet c (good d next) = rw (kind_final (length ws) d.kind)
second_is ws packet c (bad r) = refl

first_is : (ws packet : List ℕ) (k : CertificateKind) (c : Certificate) (next : ℕ) → first_in ws packet k c next ≡ continued ws packet k (accepted_of ws c) next
unfolding first_in continued ended finished
first_is ws packet certificate.FastFinal c next = refl
first_is ws packet certificate.Notar c next = second_is ws packet c (one_at ws packet next)
first_is ws packet certificate.NotarFallback c next = refl
first_is ws packet certificate.Skip c next = refl
first_is ws packet certificate.Final c next = refl
first_is ws packet certificate.Other c next = refl

-- A packet that is to be a proof.
pub proven_is : (ws packet : List ℕ) (o : One) → proof_of ws packet o ≡ proven ws packet (told ws o)
unfolding proof_of proven told accepted_of
proven_is ws packet (good c next) = first_is ws packet (kind_in (length ws) c.kind) c next
proven_is ws packet (bad r) = refl

-- ---- the answer on stakes that fit, from what is told of the first certificate

module _ (ws packet : List ℕ) (o : Result (Accepted × ℕ) Refusal) (e : o ≡ told ws (one_at ws packet 0)) where
  pub single_answer : single_on ws packet ≡ alone (length packet) o
  unfolding single_on
  single_answer = alone_is ws packet (one_at ws packet 0) ∙ ap (alone (length packet)) (sym e)

  pub proof_answer : proven_on ws packet ≡ proven ws packet o
  unfolding proven_on
  proof_answer = proven_is ws packet (one_at ws packet 0) ∙ ap (proven ws packet) (sym e)

-- ---- the whole answer, by whether they fit

module _ (ws packet : List ℕ) where
  pub single_bad : stakes_fit ws (length ws) ≡ false → Err refusal.BadSizes ≡ check_certificate ws packet
  unfolding check_certificate
  single_bad f = sym (given_off (stakes_fit ws (length ws)) (Err refusal.BadSizes) (λ _. single_of ws packet (one_at ws packet 0)) f)

  pub proof_bad : stakes_fit ws (length ws) ≡ false → Err refusal.BadSizes ≡ check_proof ws packet
  unfolding check_proof
  proof_bad f = sym (given_off (stakes_fit ws (length ws)) (Err refusal.BadSizes) (λ _. proof_of ws packet (one_at ws packet 0)) f)

  pub single_on_lem : stakes_fit ws (length ws) ≡ true → (xs : List ℕ) → xs ≡ ws → single_on xs packet ≡ check_certificate ws packet
  unfolding check_certificate single_on
  single_on_lem f xs q =
      ap (λ (x : List ℕ). single_of x packet (one_at x packet 0)) q
      ∙ sym (given_on (stakes_fit ws (length ws)) (Err refusal.BadSizes) (λ _. single_of ws packet (one_at ws packet 0)) f)

  pub proof_on_lem : stakes_fit ws (length ws) ≡ true → (xs : List ℕ) → xs ≡ ws → proven_on xs packet ≡ check_proof ws packet
  unfolding check_proof proven_on
  proof_on_lem f xs q =
      ap (λ (x : List ℕ). proof_of x packet (one_at x packet 0)) q
      ∙ sym (given_on (stakes_fit ws (length ws)) (Err refusal.BadSizes) (λ _. proof_of ws packet (one_at ws packet 0)) f)
