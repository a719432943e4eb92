-- A node that is stuck holds nothing of the slot.
use mathlib.Core.Path.{ap, ◌∙◌}
use mathlib.Core.Bool.{Bool, not, ◌||◌}
use Prim.Native.Nat.{ℕ, ◌≤◌}
use native.Mathlib.Omega.{arith}
use lib.Dec.{T, eqb, leb, ltb, leb→le, ltb→lt, lt→ltb, T_not}
use Rattle.rulebook.specs.declared.CertificateKind.TheVariants as certificate
use Rattle.rulebook.specs.Certificates.{Kept}
use Rattle.rulebook.specs.Tools.{any_of}
use Rattle.rulebook.specs.Weights.{weight}
use Rattle.rulebook.specs.Ledger.{Ledger, none, cell_at, certificates_at}
use Rattle.rulebook.specs.Pool.{has_fallback, counts, weigh, weighs, signers_of, fifths_of, reached, kept_as, held, names, certifiable}
use Rattle.rule_laws.proofs.LowestLaws.{Among}
use Rattle.rule_laws.proofs.CertificateLaws.{kept_serving, kept_name}
use Rattle.safety.specs.Slot.{notar, notar_fallback}
use Rattle.safety.specs.Ballots.{has}
use Rattle.safety.proofs.Tests.{T_true, not_false, and_t, T_and, or_t, T-left, T-right, or_neither, yes, not_not}
use Rattle.safety.proofs.Weighing.{reaches_le, weight_find, weight_zero}
use Rattle.progress.proofs.Named.{among_any, vote_certifiable}
use Rattle.progress_histories.specs.Tests.{is_stuck}

module _ (l : Ledger) (s : ℕ) where
  -- A block with votes that reach 60 has one of a node in the table.
  votes_name : (b : ℕ) → 1 ≤ l.total → T (not (none b)) → T (reached l certificate.NotarFallback s b) → Among b (certifiable l s)
  unfolding reached weighs weigh fifths_of signers_of counts
  votes_name b some z t =
      let p : ℕ → Bool = λ n. eqb (cell_at l s n).notar b || has_fallback b (cell_at l s n) in
      let none-there = weight_zero l.stakes l.count (λ n. not (ltb n l.count)) (λ n h. yes (ltb n l.count) (lt→ltb n l.count h)) in
      let f = weight_find l.stakes l.count p (λ n. not (ltb n l.count)) (omega (arith, reaches_le 3 l.total (weight l.stakes l.count p) t, none-there)) in
      let c = cell_at l s f.0 in
      vote_certifiable l s f.0 b (ltb→lt f.0 l.count (not_not (ltb f.0 l.count) f.2))
      (or_t (eqb c.notar b) (has_fallback b c) f.1
      (λ u. T-left (has c (notar b)) (has c (notar_fallback b)) (T_and (not (none b)) (eqb c.notar b) z u))
      (λ u. T-right (has c (notar b)) (has c (notar_fallback b)) (T_and (not (none b)) (has_fallback b c) z u)))

  kept_names_lem : (b : ℕ) → T (not (none b)) → T (kept_as l certificate.NotarFallback s b) → Among b (certifiable l s)
  unfolding kept_as certifiable
  kept_names_lem b z t =
      let v = kept_serving (certificates_at l s) certificate.NotarFallback b (T_true _ t) in
      kept_name (certificates_at l s) (names l s) v.place b (ap (λ (q : Kept). q.block) v.stands ∙ v.block) (not_false (none b) z)

  pub stuck_holds : T (is_stuck l s) → ¬ T (held l certificate.Skip s 0)
  unfolding is_stuck
  stuck_holds t u =
      let a = or_neither (held l certificate.Skip s 0) _ (and_t (leb 1 l.total) _ t).1 in T_not (held l certificate.Skip s 0) a.0 u

  pub stuck_backs : T (is_stuck l s) → (b : ℕ) → T (not (none b)) → ¬ T (held l certificate.NotarFallback s b)
  unfolding is_stuck held
  stuck_backs t b z u =
      let a = and_t (leb 1 l.total) _ t in
      let some = leb→le 1 l.total a.0 in
      let h = or_neither (held l certificate.Skip s 0) (any_of (held l certificate.NotarFallback s) (certifiable l s)) a.1 in
      let named = or_t (reached l certificate.NotarFallback s b) (kept_as l certificate.NotarFallback s b) u (votes_name b some z) (kept_names_lem b z) in
      T_not (any_of (held l certificate.NotarFallback s) (certifiable l s)) h.1 (among_any (held l certificate.NotarFallback s) b (certifiable l s) named u)
