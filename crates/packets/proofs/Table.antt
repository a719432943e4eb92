-- A well-formed record has the table of its first stakes, and keeps certificates that the checker accepts with it.
use Rattle.std.specs.Prelude.{⊤, Result, Ok, Err}
use mathlib.Core.Path.{◌≡◌, refl, sym, ap, ◌∙◌, subst}
use mathlib.Core.Bool.{Bool, true, ◌&&◌}
use mathlib.Core.List.{List}
use Prim.Native.Nat.{ℕ, ◌+◌, ◌≤◌, ◌<◌}
use native.Mathlib.Omega.{arith}
use lib.ListN.{length}
use lib.Seq.{get_or-take, length-take-le}
use lib.Dec.{eqb, leb}
use borrow.Author.Tests.{leb-true, eqb-true}
use Rattle.rulebook.specs.Tools.{all_to}
use Rattle.rulebook.specs.Weights.{most_nodes, places_for, most_stake, slot_ok, stake_in, total_to, stakes_fit}
use Rattle.rulebook.specs.Ledger.{Ledger, none, places, table_of, certificates_at, kept_at, is_kept}
use Rattle.rulebook.specs.Pool.{place_kind}
use Rattle.rulebook.specs.Checker.{judge_kind}
use Rattle.rulebook.specs.WellFormed.{is_fine, kept_in, each_kept, certificate_fits, certificates_fit, head_fits, well_formed}
use Rattle.rule_laws.proofs.PlaceLaws.{nodes_placed}
use Rattle.rule_laws.proofs.ToolLaws.{given_both, given_on, and_both, all_same, sum_same}
use Rattle.rule_laws.proofs.CertificateLaws.{each_at, kept_within, record_certificates}
use Rattle.packets.specs.Promises.{TableOfRecord}
use Rattle.rulebook.specs.declared.Refusal.{Refusal}

-- Stakes that agree below n fit alike, and have the same total.
module _ (xs ys : List ℕ) (n : ℕ) (e : (i : ℕ) → i < n → stake_in xs i ≡ stake_in ys i) where
  total_same : total_to xs n ≡ total_to ys n
  unfolding total_to
  total_same = sum_same n (λ i. stake_in xs i) (λ i. stake_in ys i) e

  fit_same : stakes_fit xs n ≡ stakes_fit ys n
  unfolding stakes_fit
  fit_same =
      ap (λ (x : ℕ). (leb 1 n && leb n most_nodes) && (all_to n (λ i. leb 1 (stake_in xs i)) && leb x most_stake)) total_same
      ∙ ap (λ (x : Bool). (leb 1 n && leb n most_nodes) && (x && leb (total_to ys n) most_stake))
      (all_same n (λ i. leb 1 (stake_in xs i)) (λ i. leb 1 (stake_in ys i)) (λ i h. ap (leb 1) (e i h)))

fit_few : (xs : List ℕ) (n : ℕ) → stakes_fit xs n ≡ true → n ≤ most_nodes
unfolding stakes_fit
fit_few xs n e =
    leb-true n most_nodes (and_both (leb 1 n) (leb n most_nodes) (and_both (leb 1 n && leb n most_nodes) _ e).0).1

head_true : (l : Ledger) → well_formed l ≡ true → (stakes_fit l.stakes l.count ≡ true) × (total_to l.stakes l.count ≡ l.total) × (places l ≡ places_for l.count)
unfolding well_formed head_fits
head_true l e =
    let g = and_both (eqb (places l) (places_for l.count)) _
    (given_both (head_fits l) _ e).0 in
    let h = (and_both (stakes_fit l.stakes l.count && eqb (total_to l.stakes l.count) l.total) _ g.1).0 in
    let p = and_both (stakes_fit l.stakes l.count) (eqb (total_to l.stakes l.count) l.total) h in
    (p.0, eqb-true (total_to l.stakes l.count) l.total p.1, eqb-true (places l) (places_for l.count) g.0)

fine_is : (v : Result ⊤ Refusal) → is_fine v ≡ true → v ≡ Ok tt
unfolding is_fine
fine_is (Ok tt) e = refl
fine_is (Err r) e = let z : ◌≡◌ {A = ℕ} 0 1 = cc in absurd (omega arith)

kept_fine : (l : Ledger) → well_formed l ≡ true → (s i : ℕ) → slot_ok s ≡ true → is_kept (kept_at l s i) ≡ true → judge_kind (table_of l) (place_kind i) (kept_in s (kept_at l s i)) ≡ Ok tt
unfolding certificates_fit certificate_fits
kept_fine l e s i so k =
    let ws = table_of l in
    let qs = certificates_at l s in
    let q = kept_at l s i in
    let a = and_both (each_kept (certificate_fits ws s) 0 qs) _ (record_certificates l e s so) in
    let here : 0 + i ≡ i = omega arith in
    let f = subst (λ (j : ℕ). certificate_fits ws s j q ≡ true) here (each_at (certificate_fits ws s) 0 qs i (kept_within qs i k) a.0) in
    fine_is (judge_kind ws (place_kind i) (kept_in s q)) (sym (given_on (is_kept q) (none q.block) (λ _. is_fine (judge_kind ws (place_kind i) (kept_in s q))) k) ∙ f)

pub table_of_record : TableOfRecord
table_of_record l e =
    let h = head_true l e in
    let n = l.count in
    let ws = table_of l in
    let few : n ≤ length l.stakes = omega (arith, nodes_placed n (fit_few l.stakes n h.0), h.2) in
    let len : length ws ≡ n = length-take-le n l.stakes few in
    let same : (i : ℕ) → i < n → stake_in l.stakes i ≡ stake_in ws i = λ i k. sym (get_or-take n l.stakes i 0 k) in
    record {
      count = sym len;
      each = λ i k. same i (omega arith);
      total = sym h.1 ∙ total_same l.stakes ws n same ∙ ap (total_to ws) (sym len);
      fits = ap (stakes_fit ws) len ∙ sym (fit_same l.stakes ws n same) ∙ h.0;
      kept = kept_fine l e;
    }
