-- One row of a ledger is exchanged for another with the same blocks, marks and own votes: what each rule reads of the others stays, and a rule
-- that did not apply does not apply. Assumes nothing.
use mathlib.Core.Path.{◌≡◌, refl, sym, ap, ◌∙◌, subst}
use mathlib.Core.Bool.{Bool, true, false, not, ◌&&◌, ◌||◌}
use mathlib.Core.List.{List, [], ◌∷◌}
use Prim.Native.Nat.{ℕ, zero, suc, ◌+◌, ◌-◌, ◌≤◌, ◌<◌}
use native.Mathlib.Omega.{arith}
use lib.ListN.{length, get_or}
use lib.Seq.{get_or-set_other}
use lib.Dec.{eqb, ltb}
use borrow.Author.Tests.{eqb-true, eqb-false, ne_eqb, not-true, not-false}
use Rattle.rulebook.specs.declared.Block.{Block}
use Rattle.rulebook.specs.declared.Cell.{Cell}
use Rattle.rulebook.specs.declared.CertificateKind.{CertificateKind}
use Rattle.rulebook.specs.declared.CertificateKind.TheVariants as certificate
use Rattle.rulebook.specs.declared.VoteKind.{VoteKind}
use Rattle.rulebook.specs.declared.VoteKind.TheVariants as vote
use Rattle.rulebook.specs.declared.Who.{Who}
use Rattle.rulebook.specs.declared.Who.TheVariants as who
use Rattle.rulebook.specs.Tools.{whenever, some_to, lowest, largest}
use Rattle.rulebook.specs.Weights.{is_first, first_of, reaches, weight, d_weights}
use Rattle.rulebook.specs.Ledger.{Ledger, Row, none, no_row, no_cell, no_block, row_at, cell_at, own_cell, no_initial, is_armed, blocks_at, first_block, certificates_at, put_row, put_armed}
use Rattle.rulebook.specs.Pool.{counts, weigh, weighs, signers_of, fifths_of, reached, some_kept, is_for, kept_as, held, named, names_to, names, kept_names, certifiable, some_ready, ready}
use Rattle.rulebook.specs.Rules.{Record, State, state_of, report, cast, rule_a, parent_fits, rule_b, may_final, rule_c, window_open, may_fallback, fallback_weights, is_grounded, falls_back, fallback_block, cast_fallback, rule_d, skip_weights, may_skip_fallback, cast_skip_fallback, rule_e, is_final, is_newcomer, rule_f}
use Rattle.rulebook.specs.Run.{made}
use Rattle.rule_laws.proofs.ToolLaws.{by_test, true_not_false, and_both, given_on, given_both, lowest_passes}
use Rattle.safety.proofs.Tests.{true_t}
use Rattle.settling.proofs.Places.{row_cases}
use Rattle.progress.proofs.Grows.{grows_not, fallback_grows, skip_fallback_grows}

-- ---- a rule of two tests

cast_grows : (o : State) (s : ℕ) (k : VoteKind) (b : ℕ) → made o < made (cast o s k b)
unfolding cast
cast_grows o s k b = omega arith

-- It gave the state back, and would not have done so where both tests hold.
off_both : (a b : Bool) (o x : State) → whenever a (λ _. whenever b (λ _. x) o) o ≡ o → (a ≡ true → b ≡ true → made o < made x) → a ≡ true → b ≡ true → ⊥
unfolding whenever
off_both true true o x e g u v = grows_not o x (g refl refl) e
off_both true false o x e g u v = true_not_false false v refl
off_both false b o x e g u v = true_not_false false u refl

-- Where they do not both hold it gives the state back.
back_both : (a b : Bool) (o x : State) → (a ≡ true → b ≡ true → ⊥) → whenever a (λ _. whenever b (λ _. x) o) o ≡ o
unfolding whenever
back_both true true o x f = absurd (f refl refl)
back_both true false o x f = refl
back_both false b o x f = refl

-- Where D has a block it casts.
falls_grow : (l : Ledger) (rs : List Record) (t : ℕ) → none (fallback_block l t) ≡ false → made (state_of l rs) < made (cast_fallback (state_of l rs) t (fallback_block l t))
unfolding fallback_block falls_back
falls_grow l rs t e =
    let b = fallback_block l t in
    let c = own_cell l t in
    let casts = window_open l t || may_fallback c b in
    let h = given_both (not (eqb c.notar b) && casts) (λ _. whenever (fallback_weights l t b) (λ _. is_grounded l t b) false) (lowest_passes (falls_back l t) (names l t) e) in
    fallback_grows (state_of l rs) t b (true_t casts (and_both (not (eqb c.notar b)) casts h.0).1)

module _ (l : Ledger) (s : ℕ) (r : Row) where
  abbrev pub changed : Ledger
  changed = put_row l s r

  -- ---- the other rows

  module _ (t : ℕ) (ne : t ≡ s → ⊥) where
    pub row_other : row_at changed t ≡ row_at l t
    row_other = get_or-set_other l.rows s t r no_row ne

    pub held_other : (k : CertificateKind) (x : ℕ) → held changed k t x ≡ held l k t x
    unfolding held reached weighs weigh kept_as
    held_other k x i =
        let y = row_other i in
        reaches (fifths_of k) l.total (weight l.stakes l.count (λ n. counts (signers_of k x) (get_or y.cells n no_cell))) || some_kept (is_for k x) 0 y.certificates

    names_to_lem : (n : ℕ) → names_to changed t n ≡ names_to l t n
    unfolding names_to
    names_to_lem zero = refl
    names_to_lem (suc n) =
        λ i. let c = get_or (row_other i).cells n no_cell in named c.notar (named c.fallback1 (named c.fallback2 (named c.fallback3 (names_to_lem n i))))

    pub names_other : names changed t ≡ names l t
    unfolding names
    names_other = names_to_lem l.count

    certifiable_other : certifiable changed t ≡ certifiable l t
    unfolding certifiable
    certifiable_other i = kept_names (row_other i).certificates (names_other i)

    pub weights_other : (b : ℕ) → fallback_weights changed t b ≡ fallback_weights l t b
    unfolding fallback_weights weigh
    weights_other b i =
        let y = row_other i in
        d_weights l.total (weight l.stakes l.count (λ n. counts (who.Notar b) (get_or y.cells n no_cell))) (weight l.stakes l.count (λ n. counts who.Skip (get_or y.cells n no_cell)))

    skip_other : skip_weights changed t ≡ skip_weights l t
    unfolding skip_weights weigh
    skip_other i =
        let y = row_other i in
        let f : Who → ℕ = λ w. weight l.stakes l.count (λ n. counts w (get_or y.cells n no_cell)) in
        reaches 2 l.total (f who.Skip + f who.AnyNotar - largest (λ b. f (who.Notar b)) (names_other i))

  -- ---- blocks, marks and own votes of every row

  module _ (inside : s < length l.rows) (blocks : r.blocks ≡ (row_at l s).blocks) (final : r.final ≡ (row_at l s).final) (clash : r.clash ≡ (row_at l s).clash)
      (mine : get_or r.cells l.own no_cell ≡ own_cell l s) where
    pub same_blocks : (t : ℕ) → blocks_at changed t ≡ blocks_at l t
    same_blocks t = row_cases l s r (λ i x. x.blocks ≡ blocks_at l i) t inside blocks (λ _. refl)

    pub same_final : (t : ℕ) → (row_at changed t).final ≡ (row_at l t).final
    same_final t = row_cases l s r (λ i x. x.final ≡ (row_at l i).final) t inside final (λ _. refl)

    pub same_clash : (t : ℕ) → (row_at changed t).clash ≡ (row_at l t).clash
    same_clash t = row_cases l s r (λ i x. x.clash ≡ (row_at l i).clash) t inside clash (λ _. refl)

    pub same_own : (t : ℕ) → own_cell changed t ≡ own_cell l t
    same_own t = row_cases l s r (λ i x. get_or x.cells l.own no_cell ≡ own_cell l i) t inside mine (λ _. refl)

    pub same_first : (t : ℕ) → first_block changed t ≡ first_block l t
    same_first t i = get_or (same_blocks t i) 0 no_block

    pub same_open : (t : ℕ) → window_open changed t ≡ window_open l t
    unfolding window_open
    same_open t j = some_to 4 (λ i. no_initial (same_own (first_of t + i) j))

    module _ (rs : List Record) (t : ℕ) where
      abbrev o : State
      o = state_of l rs

      abbrev p : State
      p = state_of changed rs

      -- ---- A and B: where a parent that is ready was ready before

      pub A-stays : (some_ready changed t ≡ true → some_ready l t ≡ true) → rule_a o t ≡ o → rule_a p t ≡ p
      unfolding rule_a
      A-stays h e =
          back_both (is_first t && not (is_armed l t)) (some_ready changed t) p (report p (put_armed changed t) 7 t 0)
          (λ u v. off_both (is_first t && not (is_armed l t)) (some_ready l t) o (report o (put_armed l t) 7 t 0) e (λ _ _. omega arith) u (h v))

      pub B-stays : (none (first_block l t).number ≡ false → parent_fits changed t (is_first t) (first_block l t) ≡ true → parent_fits l t (is_first t) (first_block l t) ≡ true) → rule_b o t ≡ o → rule_b p t ≡ p
      unfolding rule_b
      B-stays h e =
          let may : Ledger → Bool = λ x. no_initial (own_cell x t) && not (none (first_block x t).number) in
          let same : may changed ≡ may l = (λ i. no_initial (same_own t i) && not (none (same_first t i).number)) in
          let fits : parent_fits changed t (is_first t) (first_block changed t) ≡ parent_fits changed t (is_first t) (first_block l t) = (λ i. parent_fits changed t (is_first t) (same_first t i)) in
          back_both (may changed) (parent_fits changed t (is_first t) (first_block changed t)) p (cast p t vote.Notar (first_block changed t).number)
          (λ u v. off_both (may l) (parent_fits l t (is_first t) (first_block l t)) o (cast o t vote.Notar (first_block l t).number) e (λ _ _. cast_grows o t vote.Notar (first_block l t).number)
          (sym same ∙ u) (h (not-true (none (first_block l t).number) (and_both (no_initial (own_cell l t)) (not (none (first_block l t).number)) (sym same ∙ u)).1) (sym fits ∙ v)))

      -- ---- D: where a block that it applies to is one that it applied to before

      pub D-stays : (none (fallback_block changed t) ≡ false → none (fallback_block l t) ≡ false) → rule_d o t ≡ o → rule_d p t ≡ p
      unfolding rule_d
      D-stays h e =
          let b = fallback_block changed t in
          let d = fallback_block l t in
          let same : not (no_initial (own_cell changed t)) ≡ not (no_initial (own_cell l t)) = (λ i. not (no_initial (same_own t i))) in
          back_both (not (no_initial (own_cell changed t))) (not (none b)) p (cast_fallback p t b)
          (λ u v. off_both (not (no_initial (own_cell l t))) (not (none d)) o (cast_fallback o t d) e
          (λ _ w. falls_grow l rs t (not-true (none d) w)) (sym same ∙ u) (ap not (h (not-true (none b) v))))

      module _ (ne : t ≡ s → ⊥) where
        pub C-stays : rule_c o t ≡ o → rule_c p t ≡ p
        unfolding rule_c
        C-stays e =
            let same : may_final (own_cell changed t) ≡ may_final (own_cell l t) = (λ i. may_final (same_own t i)) in
            let has : held changed certificate.Notar t (own_cell changed t).notar ≡ held l certificate.Notar t (own_cell l t).notar =
            (λ i. held changed certificate.Notar t (same_own t i).notar) ∙ held_other t ne certificate.Notar (own_cell l t).notar in
            back_both (may_final (own_cell changed t)) (held changed certificate.Notar t (own_cell changed t).notar) p (cast p t vote.Final 0)
            (λ u v. off_both (may_final (own_cell l t)) (held l certificate.Notar t (own_cell l t).notar) o (cast o t vote.Final 0) e (λ _ _. cast_grows o t vote.Final 0) (sym same ∙ u) (sym has ∙ v))

        pub E-stays : rule_e o t ≡ o → rule_e p t ≡ p
        unfolding rule_e
        E-stays e =
            let may : Ledger → Bool = λ x. not (none (own_cell x t).notar) && (window_open x t || may_skip_fallback (own_cell x t)) in
            let same : may changed ≡ may l = (λ i. not (none (same_own t i).notar) && (same_open t i || may_skip_fallback (same_own t i))) in
            back_both (may changed) (skip_weights changed t) p (cast_skip_fallback p t)
            (λ u v. off_both (may l) (skip_weights l t) o (cast_skip_fallback o t) e
            (λ a _. skip_fallback_grows o t (true_t (window_open l t || may_skip_fallback (own_cell l t)) (and_both (not (none (own_cell l t).notar)) (window_open l t || may_skip_fallback (own_cell l t)) a).1))
            (sym same ∙ u) (sym (skip_other t ne) ∙ v))

        same_newcomer : (b : ℕ) → is_newcomer changed t b ≡ is_newcomer l t b
        unfolding is_newcomer is_final
        same_newcomer b i =
            (held_other t ne certificate.FastFinal b i || (held_other t ne certificate.Notar b i && held_other t ne certificate.Final 0 i)) && not (eqb b (same_final t i))

        pub newcomer_stays : lowest (is_newcomer changed t) (certifiable changed t) ≡ lowest (is_newcomer l t) (certifiable l t)
        newcomer_stays i = lowest (λ b. same_newcomer b i) (certifiable_other t ne i)
