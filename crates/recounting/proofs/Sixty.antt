-- A block that reaches 60 is the leader, so that from 60 on the card answers.
use mathlib.Core.Path.{◌≡◌, refl, sym, ap, ◌∙◌}
use mathlib.Core.Bool.{true, ◌&&◌}
use Prim.Native.Nat.{ℕ, zero, suc, ◌≤◌}
use native.Mathlib.Omega.{arith}
use lib.Dec.{eqb}
use borrow.Author.Tests.{eq-eqb, eqb-true}
use Rattle.rulebook.specs.declared.Who.TheVariants as who
use Rattle.rulebook.specs.Weights.{total_to, reaches}
use Rattle.rulebook.specs.Ledger.{Ledger}
use Rattle.rulebook.specs.Pool.{weigh}
use Rattle.rulebook.specs.Cards.{most, leader}
use Rattle.rule_laws.proofs.ToolLaws.{and_both, both_and, same_test, true_not_false}
use Rattle.rule_laws.proofs.WeightLaws.{reaches_fact, reaches_fewer, reaches_nothing}
use Rattle.recounting.proofs.Leading.{lead_recount}
use Rattle.recounting.proofs.Quick.{weigh_within, lead_quick, recount_leader}

module _ (l : Ledger) (s : ℕ) (sum : total_to l.stakes l.count ≡ l.total) (some : 1 ≤ l.total) where
  -- A block that reaches 60 is the leader, and its weight is on the card.
  pub sixty_leads : (b : ℕ) → 1 ≤ b → reaches 3 l.total (weigh l s (who.Notar b)) ≡ true → (leader l s ≡ b) × (most l s ≡ weigh l s (who.Notar b))
  sixty_leads b h e =
      let f = reaches_fact 3 l.total (weigh l s (who.Notar b)) e in
      recount_leader l s b (weigh l s (who.Notar b))
      (lead_quick l s b (weigh l s (who.Notar b)) h (omega arith) refl (omega (arith, weigh_within l s who.AnyNotar)))

  -- a weight that reaches a threshold is not 0
  pub reached_some : (k w : ℕ) → 1 ≤ k → reaches k l.total w ≡ true → 1 ≤ w
  reached_some k zero h e = true_not_false (reaches k l.total 0) e (reaches_nothing k l.total h some)
  reached_some k (suc w) h e = omega arith

  -- From 60 percent on "notar(b) reaches" is a question to the card.
  pub notar_card : (k b : ℕ) → 3 ≤ k → 1 ≤ b → reaches k l.total (weigh l s (who.Notar b)) ≡ (eqb (leader l s) b && reaches k l.total (most l s))
  notar_card k b h i =
      same_test (reaches k l.total (weigh l s (who.Notar b))) (eqb (leader l s) b && reaches k l.total (most l s))
      (λ e.
      let r = sixty_leads b i (reaches_fewer 3 k l.total (weigh l s (who.Notar b)) h e) in
      both_and (eqb (leader l s) b) (reaches k l.total (most l s)) (eq-eqb (leader l s) b r.0) (ap (reaches k l.total) r.1 ∙ e))
      (λ e.
      let r = and_both (eqb (leader l s) b) (reaches k l.total (most l s)) e in
      let w = (lead_recount l s).weight (reached_some k (most l s) (omega arith) r.1) in
      let z = ap (λ (x : ℕ). weigh l s (who.Notar x)) (eqb-true (leader l s) b r.0) in
      ap (reaches k l.total) (sym z ∙ w) ∙ r.1)
