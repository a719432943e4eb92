-- What a scan of the rules learns from the card: where the others of the leader stay short of 40 no other block falls back; who has
-- voted. Assumes nothing.
use mathlib.Core.Path.{◌≡◌}
use mathlib.Core.Bool.{true, false, ◌&&◌, ◌||◌}
use Prim.Native.Nat.{ℕ, ◌+◌, ◌-◌, ◌≤◌, ◌<◌}
use native.Mathlib.Omega.{arith}
use lib.Dec.{leb}
use borrow.Author.Tests.{leb-true, leb-false}
use Rattle.rulebook.specs.declared.Who.{Who}
use Rattle.rulebook.specs.declared.Who.TheVariants as who
use Rattle.rulebook.specs.Tools.{some_to}
use Rattle.rulebook.specs.Weights.{total_to, reaches, d_weights}
use Rattle.rulebook.specs.Ledger.{Ledger, none, cell_at}
use Rattle.rulebook.specs.Pool.{counts, weigh}
use Rattle.rulebook.specs.Rules.{fallback_weights}
use Rattle.rulebook.specs.Cards.{most, leader}
use Rattle.rule_laws.proofs.ToolLaws.{by_test, and_both, or_cases, some_each}
use Rattle.rule_laws.proofs.WeightLaws.{reaches_fact, short_fact, weight_none}
use Rattle.recounting.proofs.Leading.{lead_recount}
use Rattle.recounting.proofs.Using.{notar_apart, initial_within, most_any}

-- Weight is that of some node.
pub weigh_some : (l : Ledger) (s : ℕ) (w : Who) → 1 ≤ weigh l s w → some_to l.count (λ n. counts w (cell_at l s n)) ≡ true
unfolding weigh
weigh_some l s w h =
    by_test (some_to l.count (λ n. counts w (cell_at l s n))) (λ t. t)
    (λ t. absurd (omega (arith, weight_none l.stakes l.count (λ n. counts w (cell_at l s n)) (λ i d. some_each l.count i (λ n. counts w (cell_at l s n)) t d))))

module _ (l : Ledger) (s : ℕ) (sum : total_to l.stakes l.count ≡ l.total) (some : 1 ≤ l.total) where
  -- ---- rule D

  -- No node has both initial votes, and what the leader does not have stays short of 40: no other block has D's weights.
  module _ (one : (n : ℕ) → n < l.count → (none (cell_at l s n).notar || none (cell_at l s n).skip) ≡ true) (short : reaches 2 l.total (l.total - most l s) ≡ false) where
    beside : (b : ℕ) → 1 ≤ b → (leader l s ≡ b → ⊥) → weigh l s who.Skip + weigh l s (who.Notar b) + most l s ≤ l.total
    beside b h ne =
        by_test (leb 1 (most l s))
        (λ t.
        let m = leb-true 1 (most l s) t in
        let g = lead_recount l s in
        omega (arith, initial_within l s sum some one, notar_apart l s b (leader l s) ne h (g.block m), g.weight m))
        (λ t. absurd (omega (arith, leb-false 1 (most l s) t, short_fact 2 l.total (l.total - most l s) short, some)))

    pub falls_beside : (b : ℕ) → 1 ≤ b → (leader l s ≡ b → ⊥) → fallback_weights l s b ≡ false
    unfolding fallback_weights
    falls_beside b h ne =
        let w = weigh l s (who.Notar b) in
        let k = weigh l s who.Skip in
        let a = beside b h ne in
        let f = short_fact 2 l.total (l.total - most l s) short in
        by_test (d_weights l.total w k)
        (λ t. or_cases (reaches 2 l.total w) (reaches 1 l.total w && reaches 3 l.total (k + w)) t
        (λ u. absurd (omega (arith, a, f, reaches_fact 2 l.total w u)))
        (λ u. absurd (omega (arith, a, f, reaches_fact 3 l.total (k + w) (and_both (reaches 1 l.total w) (reaches 3 l.total (k + w)) u).1))))
        (λ t. t)

  -- ---- who has voted

  -- a leader has a vote
  pub leader_voted : (leader l s ≡ 0 → ⊥) → some_to l.count (λ n. counts who.AnyNotar (cell_at l s n)) ≡ true
  leader_voted ne =
      by_test (leb 1 (most l s)) (λ t. weigh_some l s who.AnyNotar (omega (arith, leb-true 1 (most l s) t, most_any l s sum some)))
      (λ t. absurd (ne ((lead_recount l s).empty (omega (arith, leb-false 1 (most l s) t)))))
