-- The quick test of a claimed leader. Assumes nothing.
use mathlib.Core.Path.{◌≡◌, sym, ap, ◌∙◌}
use mathlib.Core.Bool.{Bool, not, ◌&&◌, ◌||◌}
use Prim.Native.Nat.{ℕ, ◌+◌, ◌≤◌, ◌<◌}
use native.Mathlib.Omega.{arith}
use lib.Dec.{eqb}
use borrow.Author.Tests.{ne_eqb, eqb-true, eqb-false}
use Rattle.rulebook.specs.declared.Who.{Who}
use Rattle.rulebook.specs.declared.Who.TheVariants as who
use Rattle.rulebook.specs.Weights.{total_to}
use Rattle.rulebook.specs.Ledger.{Ledger, none, cell_at}
use Rattle.rulebook.specs.Pool.{counts, weigh}
use Rattle.rulebook.specs.Cards.{most, leader}
use Rattle.rule_laws.proofs.ToolLaws.{by_test, and_both, or_cases}
use Rattle.rule_laws.proofs.WeightLaws.{weight_none, weight_mono, weight_both, weight_total}
use Rattle.recounting.proofs.Leading.{Lead, lead_one, lead_recount}

module _ (l : Ledger) (s : ℕ) where
  -- two blocks share no node
  pub notar_apart : (b m : ℕ) → (m ≡ b → ⊥) → 1 ≤ b → 1 ≤ m → weigh l s (who.Notar b) + weigh l s (who.Notar m) ≤ weigh l s who.AnyNotar
  unfolding weigh counts
  notar_apart b m ne h k =
      let p : ℕ → Bool = (λ n. eqb (cell_at l s n).notar b) in
      let q : ℕ → Bool = (λ n. eqb (cell_at l s n).notar m) in
      let any : ℕ → Bool = (λ n. not (none (cell_at l s n).notar)) in
      omega (
        arith,
        weight_both l.stakes l.count p q,
        weight_none l.stakes l.count (λ n. p n && q n)
            (λ i d. by_test (p i && q i) (λ t. let z = and_both (p i) (q i) t in absurd (ne (sym (eqb-true (cell_at l s i).notar m z.1) ∙ eqb-true (cell_at l s i).notar b z.0))) (λ t. t)),
        weight_mono l.stakes l.count (λ n. p n || q n) any
            (λ i d t. ap not (ne_eqb (cell_at l s i).notar 0 (λ z. or_cases (p i) (q i) t (λ u. omega (arith, eqb-true (cell_at l s i).notar b u)) (λ u. omega (arith, eqb-true (cell_at l s i).notar m u))))),
      )

  pub weigh_within : (w : Who) → weigh l s w ≤ total_to l.stakes l.count
  unfolding weigh
  weigh_within w = weight_total l.stakes l.count (λ n. counts w (cell_at l s n))

  -- ---- the quick test of a claimed leader

  -- A block with more than all the others together leads.
  pub lead_quick : (b w : ℕ) → 1 ≤ b → 1 ≤ w → weigh l s (who.Notar b) ≡ w → weigh l s who.AnyNotar < w + w → Lead l s b w
  lead_quick b w h k e q =
      record {
        empty = λ z. absurd (omega arith);
        block = λ _. h;
        weight = λ _. e;
        above = λ m i. by_test (eqb m b) (λ t. let z = ap (λ (x : ℕ). weigh l s (who.Notar x)) (eqb-true m b t) in omega arith)
            (λ t. omega (arith, notar_apart b m (eqb-false m b t) h i));
        lower = λ m i j z. by_test (eqb m b) (λ t. omega (arith, eqb-true m b t))
            (λ t. absurd (omega (arith, notar_apart b m (eqb-false m b t) h i)));
      }

  -- So the recount's leader is the one claimed.
  pub recount_leader : (b w : ℕ) → Lead l s b w → (leader l s ≡ b) × (most l s ≡ w)
  recount_leader b w h = lead_one l s (leader l s) (most l s) b w (lead_recount l s) h
