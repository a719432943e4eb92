-- Where no rule applies a final block is marked, and marks are told; before the first accepted call nothing is final.
use mathlib.Core.Path.{◌≡◌, sym, ap, ◌∙◌, subst}
use mathlib.Core.Bool.{not, ◌&&◌}
use mathlib.Core.List.{List}
use mathlib.Core.Logic.{inl, inr}
use Prim.Native.Nat.{ℕ, ◌*◌, ◌≤◌}
use native.Mathlib.Omega.{arith}
use lib.Dec.{T, eqb, leb→le, not_T}
use borrow.Author.Tests.{eqb-true, eq-eqb}
use Rattle.rulebook.specs.declared.CertificateKind.{CertificateKind}
use Rattle.rulebook.specs.declared.CertificateKind.TheVariants as certificate
use Rattle.rulebook.specs.Weights.{last_slot, weight, reaches}
use Rattle.rulebook.specs.Ledger.{Ledger, none, row_at, cell_at, keeps_block, fresh}
use Rattle.rulebook.specs.Pool.{fifths_of, held}
use Rattle.rulebook.specs.Checker.{is_other_kind, block_misfits}
use Rattle.rulebook.specs.Rules.{state_of, record_of, is_final}
use Rattle.rule_laws.proofs.ToolLaws.{by_test, and_both, both_and}
use Rattle.safety.specs.Ballots.{has, among}
use Rattle.safety.specs.Grounds.{signs, Held, by_votes, by_kept}
use Rattle.safety.specs.Ring.{ballot_a, ballot_b}
use Rattle.safety.proofs.Tests.{T_true, true_t, and_t, or_t, T-left, T-right, neither, not_false}
use Rattle.safety.proofs.Weighing.{weight_zero}
use Rattle.safety.proofs.Behind.{held_held}
use Rattle.safety.proofs.Lives.{Sized, fresh_has, fresh_kept, fresh_keeps, fresh_ready, life_ready}
use Rattle.soundness.proofs.Laws.{sound_ledger, sound_tabled}
use Rattle.finality.specs.Finals.{IsTold}
use Rattle.finality.proofs.Theorems.{certified_is_told, parent_is_told}
use Rattle.progress.specs.Progress.{accepted_in, AtRest}
use Rattle.progress.proofs.Ends.{life_rests, life_stays}
use Rattle.seen.specs.Seen.{Seen, ledger_in}
use Rattle.told.specs.Told.{Marked, is_told, tells, count_of, ToldAll}
use Rattle.told.proofs.Told.{Began, alive_began, marks_are_told}
use Rattle.told.proofs.Held.{some_fifths}

-- ---- a fresh ledger holds nothing

module _ (stakes : List ℕ) (own genesis : ℕ) (size : Sized stakes own) where
  abbrev first : Ledger
  first = fresh stakes own genesis

  total_some : 1 ≤ first.total
  unfolding fresh
  total_some = size.some

  fresh_unheld : (k : CertificateKind) (s b : ℕ) → Held first k s b → ⊥
  unfolding reaches
  fresh_unheld k s b (by_votes t) =
      let w : weight first.stakes first.count (λ n. signs k b (cell_at first s n)) ≡ 0 =
      weight_zero first.stakes first.count (λ n. signs k b (cell_at first s n))
      (λ n _. neither (has (cell_at first s n) (ballot_a k b)) (has (cell_at first s n) (ballot_b k b))
      (not_T (has (cell_at first s n) (ballot_a k b)) (fresh_has stakes own genesis s n (ballot_a k b))) (not_T (has (cell_at first s n) (ballot_b k b)) (fresh_has stakes own genesis s n (ballot_b k b)))) in
      omega (arith, w, some_fifths k first.total total_some, leb→le (fifths_of k * first.total) (5 * weight first.stakes first.count (λ n. signs k b (cell_at first s n))) t)
  fresh_unheld k s b (by_kept i t u e) = rw (fresh_kept stakes own genesis s i) at t

  fresh_not_final : (s b : ℕ) → T (not (none b)) → T (is_final first s b) → ⊥
  unfolding is_final is_other_kind block_misfits
  fresh_not_final s b nb t =
      or_t (held first certificate.FastFinal s b) (held first certificate.Notar s b && held first certificate.Final s 0) t
      (λ u. fresh_unheld certificate.FastFinal s b (held_held first certificate.FastFinal s b tt nb u))
      (λ u. fresh_unheld certificate.Notar s b (held_held first certificate.Notar s b tt nb (and_t (held first certificate.Notar s b) (held first certificate.Final s 0) u).0))

-- ---- told

module _ (stakes : List ℕ) (genesis : ℕ) (v : Seen) (a : Began stakes genesis v) (m : Marked v) where
  -- No rule applies, or nothing was accepted yet.
  rest_or_fresh : {X : Type 0} → (AtRest (ledger_in v) → X) → (ledger_in v ≡ fresh stakes a.own genesis → X) → X
  rest_or_fresh f g =
      let l = fresh stakes a.own genesis in
      by_test (accepted_in l v.came)
      (λ t. f (subst AtRest (sym a.lived.ledger) (life_rests l v.came a.sound (inl (true_t (accepted_in l v.came) t)))))
      (λ t. g (a.lived.ledger ∙ life_stays l v.came a.sound t))

  -- A mark was told.
  mark_told : (s b : ℕ) → T (not (none b)) → IsTold (ledger_in v) s b → T (is_told v.told s b)
  mark_told s b nb (inl e) =
      T-left (among v.told (record_of 6 s b)) (not (none (count_of (tells 8 s) v.told)))
      (true_t (among v.told (record_of 6 s b)) (sym (m.final s b) ∙ both_and (not (none b)) (eqb (row_at (ledger_in v) s).final b) (T_true (not (none b)) nb) (eq-eqb (row_at (ledger_in v) s).final b e)))
  mark_told s b nb (inr e) =
      T-right (among v.told (record_of 6 s b)) (not (none (count_of (tells 8 s) v.told)))
      (true_t (not (none (count_of (tells 8 s) v.told))) (sym (m.another s) ∙ ap not e))

  certified : (s b : ℕ) → 1 ≤ s → s ≤ last_slot → T (not (none b)) → T (is_final (ledger_in v) s b) → T (is_told v.told s b)
  certified s b low high nb t =
      rest_or_fresh
      (λ r. mark_told s b nb
      (certified_is_told (state_of (ledger_in v) r.records) r.settled (sound_tabled v.words a.lived.sound) s b low high (not_false (none b) nb) (T_true (is_final (ledger_in v) s b) t)))
      (λ e. absurd (fresh_not_final stakes a.own genesis a.size s b nb (subst (λ (l : Ledger). T (is_final l s b)) e t)))

  parent : (s b p x : ℕ) → 1 ≤ s → s ≤ last_slot → 1 ≤ p → T (among v.told (record_of 6 s b)) → T (keeps_block (ledger_in v) s b p x) → T (is_told v.told p x)
  parent s b p x low high pos told t =
      let l = ledger_in v in
      let is : (row_at l s).final ≡ b = eqb-true (row_at l s).final b (and_both (not (none b)) (eqb (row_at l s).final b) (m.final s b ∙ T_true (among v.told (record_of 6 s b)) told)).1 in
      let inv = (life_ready a.own (fresh stakes a.own genesis) v.came (fresh_ready stakes a.own genesis a.size)).inv in
      let nx : T (not (none x)) = (inv.blocks s b p x (subst (λ (z : Ledger). T (keeps_block z s b p x)) a.lived.ledger t)).1 in
      rest_or_fresh
      (λ r. mark_told p x nx
      (parent_is_told (state_of l r.records) r.settled (sound_ledger v.words a.lived.sound) s p x low high pos
      (T_true (keeps_block l s (row_at l s).final p x) (subst (λ (c : ℕ). T (keeps_block l s c p x)) (sym is) t))))
      (λ e. absurd (fresh_keeps stakes a.own genesis s b p x (subst (λ (z : Ledger). T (keeps_block z s b p x)) e t)))

pub told_all : ToldAll
told_all stakes genesis v alive =
    let a = alive_began alive in
    let m = marks_are_told stakes genesis v alive in
    record { certified = certified stakes genesis v a m; parent = parent stakes genesis v a m }
