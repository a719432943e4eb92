-- An accepted certificate may be kept beside the others: it has signers, the checker accepts it in every place of its kind, and none repeats
-- another.
use Rattle.std.specs.Prelude.{⊤, Result, Ok}
use mathlib.Core.Path.{◌≡◌, refl, sym, ap, ◌∙◌, subst}
use mathlib.Core.Bool.{Bool, true, false, not, ◌&&◌, ◌||◌}
use mathlib.Core.List.{List}
use Prim.Native.Nat.{ℕ, ◌<◌, ◌≤◌}
use native.Mathlib.Omega.{arith}
use lib.ListN.{length}
use lib.Seq.{get_or-take, length-take-le}
use borrow.Author.Tests.{not-false, eqb-true}
use Rattle.rulebook.specs.declared.CertificateKind.{CertificateKind}
use Rattle.rulebook.specs.declared.CertificateKind.TheVariants as certificate
use Rattle.rulebook.specs.declared.Refusal.{Refusal}
use Rattle.rulebook.specs.declared.Refusal.TheVariants as refusal
use Rattle.rulebook.specs.Certificates.{Certificate, Kept}
use Rattle.rulebook.specs.Weights.{slot_ok, stake_in, total_to, weight, reaches}
use Rattle.rulebook.specs.Ledger.{Ledger, none, table_of, certificates_at, is_kept}
use Rattle.rulebook.specs.Pool.{fifths_of, place_kind, same_kind}
use Rattle.rulebook.specs.Packets.{bit}
use Rattle.rulebook.specs.Checker.{is_other_kind, block_misfits, bad_signers, signed, signed_weight, lacking, judge_weight, judge_kind}
use Rattle.rulebook.specs.Taking.{fill_kept, kept_of}
use Rattle.rulebook.specs.WellFormed.{is_fine, kept_in, each_kept, certificate_fits, certificates_apart, certificates_fit}
use Rattle.rule_laws.proofs.ToolLaws.{given_on, and_both, both_and, by_test, true_not_false, sum_term}
use Rattle.rule_laws.proofs.WeightLaws.{reaches_nothing, weight_none}
use Rattle.rule_laws.proofs.MaskLaws.{zero_bit}
use Rattle.rule_laws.proofs.RuleLaws.{refuse_fine}
use Rattle.rule_laws.proofs.CertificateLaws.{same_kind_lem, fill_each, fill_kept_apart}
use Rattle.settling.specs.Facts.{HeadFacts, Formed}
use Rattle.settling.specs.Steps.{kind_for, CertificateFine}
use Rattle.settling.proofs.FactLaws.{count_placed}

-- ---- the table of a record

pub table_long : (l : Ledger) → HeadFacts l → length (table_of l) ≡ l.count
table_long l d = length-take-le l.count l.stakes (count_placed l d)

table_some : (l : Ledger) → HeadFacts l → 1 ≤ total_to (table_of l) (length (table_of l))
unfolding total_to
table_some l d =
    let ws : List ℕ = table_of l in
    let first : 0 < length ws = subst (λ (n : ℕ). 0 < n) (sym (table_long l d)) d.some in
    let is : stake_in ws 0 ≡ stake_in l.stakes 0 = get_or-take l.count l.stakes 0 0 d.some in
    omega (arith, is, d.staked 0 d.some, sum_term (length ws) 0 (stake_in ws) first)

-- ---- an accepted certificate

fifths_some : (k : CertificateKind) → 1 ≤ fifths_of k
unfolding fifths_of
fifths_some certificate.FastFinal = omega arith
fifths_some certificate.Notar = omega arith
fifths_some certificate.NotarFallback = omega arith
fifths_some certificate.Skip = omega arith
fifths_some certificate.Final = omega arith
fifths_some certificate.Other = omega arith

-- The certificate as it is kept is judged alike.
judged_alike : (stakes : List ℕ) (k : CertificateKind) (c : Certificate) → judge_kind stakes k (kept_in c.slot (kept_of c)) ≡ judge_kind stakes k c
unfolding judge_kind judge_weight lacking bad_signers signed_weight signed
judged_alike stakes k c = refl

fine_is : (v : Result ⊤ Refusal) → v ≡ Ok tt → is_fine v ≡ true
unfolding is_fine
fine_is v e = rw e

neither : (x y : Bool) → x ≡ false → y ≡ false → (x || y) ≡ false
neither x y e d = rw (e, d)

-- It has signers: without them there is no weight.
pub judged_kept : (stakes : List ℕ) (k : CertificateKind) (c : Certificate) → 1 ≤ total_to stakes (length stakes) → judge_kind stakes k c ≡ Ok tt → is_kept (kept_of c) ≡ true
unfolding judge_kind judge_weight signed_weight signed
judged_kept stakes k c pos e =
    let all : ℕ = total_to stakes (length stakes) in
    let signs : ℕ → Bool = λ n. bit c.maska n || bit c.maskb n in
    let a = refuse_fine (is_other_kind k) refusal.BadKind _ e in
    let b = refuse_fine (not (slot_ok c.slot)) refusal.BadSlot _ a.1 in
    let d = refuse_fine (block_misfits k c.block) refusal.BadBlock _ b.1 in
    let f = refuse_fine (bad_signers (length stakes) k c) refusal.BadSigners _ d.1 in
    let g = refuse_fine (not (reaches (fifths_of k) all (weight stakes (length stakes) signs))) _ (Ok tt) f.1 in
    let heavy = not-false (reaches (fifths_of k) all (weight stakes (length stakes) signs)) g.0 in
    by_test (none c.maska && none c.maskb)
    (λ t.
    let z = and_both (none c.maska) (none c.maskb) t in
    let no_bit : (m n : ℕ) → none m ≡ true → bit m n ≡ false = λ m n q. ap (λ (x : ℕ). bit x n) (eqb-true m 0 q) ∙ zero_bit n in
    let light = weight_none stakes (length stakes) signs (λ n _. neither (bit c.maska n) (bit c.maskb n) (no_bit c.maska n z.0) (no_bit c.maskb n z.1)) in
    true_not_false (reaches (fifths_of k) all 0) (subst (λ (w : ℕ). reaches (fifths_of k) all w ≡ true) light heavy) (reaches_nothing (fifths_of k) all (fifths_some k) pos))
    (λ t. ap not t)

-- ---- kept

module _ (l : Ledger) (f : Formed l) (c : Certificate) (e : CertificateFine l c) where
  -- It fits every place of its kind.
  kept_fits_lem : (j : ℕ) → same_kind (place_kind j) (kind_for l c) ≡ true → certificate_fits (table_of l) c.slot j (kept_of c) ≡ true
  unfolding certificate_fits
  kept_fits_lem j s =
      let ws : List ℕ = table_of l in
      let k : CertificateKind = kind_for l c in
      given_on (is_kept (kept_of c)) (none c.block) (λ _. is_fine (judge_kind ws (place_kind j) (kept_in c.slot (kept_of c)))) (judged_kept ws k c (table_some l f.head) e.judged)
      ∙ subst (λ (i : CertificateKind). is_fine (judge_kind ws i (kept_in c.slot (kept_of c))) ≡ true) (sym (same_kind_lem (place_kind j) k s))
      (fine_is (judge_kind ws k (kept_in c.slot (kept_of c))) (judged_alike ws k c ∙ e.judged))

  pub fine_certificates : certificates_fit (table_of l) c.slot (fill_kept (kind_for l c) 0 (kept_of c) (certificates_at l c.slot)) ≡ true
  unfolding certificates_fit
  fine_certificates =
      let ws : List ℕ = table_of l in
      let k : CertificateKind = kind_for l c in
      let qs : List Kept = certificates_at l c.slot in
      let a = and_both (each_kept (certificate_fits ws c.slot) 0 qs) (certificates_apart 0 qs) (f.rows c.slot e.low e.high).certificates in
      both_and (each_kept (certificate_fits ws c.slot) 0 (fill_kept k 0 (kept_of c) qs)) (certificates_apart 0 (fill_kept k 0 (kept_of c) qs))
      (fill_each (certificate_fits ws c.slot) k 0 (kept_of c) qs kept_fits_lem a.0) (fill_kept_apart k 0 (kept_of c) qs e.apart a.1)
