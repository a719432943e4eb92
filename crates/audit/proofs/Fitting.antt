-- The leader on the card, from what was summed; a claimed leader without a rival leads. Assumes nothing.
use mathlib.Core.Path.{◌≡◌, refl, sym, ap, ◌∙◌}
use mathlib.Core.Bool.{Bool, true, false, not, ◌&&◌, ◌||◌}
use Prim.Native.Nat.{ℕ, ◌+◌, ◌≤◌, ◌<◌}
use native.Mathlib.Omega.{arith}
use lib.Dec.{eqb, leb}
use borrow.Author.Tests.{eq-eqb, ne_eqb, eqb-true, eqb-false, leb-true, leb-false, not-true, not-false}
use Rattle.rulebook.specs.declared.Who.TheVariants as who
use Rattle.rulebook.specs.Tools.{part, some_to}
use Rattle.rulebook.specs.Weights.{stake_in, weight}
use Rattle.rulebook.specs.Ledger.{Ledger, none, cell_at}
use Rattle.rulebook.specs.Pool.{counts, weigh}
use Rattle.rulebook.specs.Cards.{leads, most, leader}
use Rattle.rule_laws.proofs.ToolLaws.{and_both, both_and, or_cases, or_none, by_test, same_test, true_not_false, part_on, part_off, sum_const, sum_same, sum_term, some_find, some_each}
use Rattle.rule_laws.proofs.WeightLaws.{weight_none}
use Rattle.recounting.proofs.Leading.{Lead, lead_recount, leads_on, leads_off}
use Rattle.recounting.proofs.Using.{lead_quick, lead_none, recount_leader}
use Rattle.rivals.specs.Rivals.{rivals, has_rival}

module _ (l : Ledger) (s : ℕ) where
  -- ---- rivals

  -- a block with notar weight has a node that votes for it
  voted_by : (m : ℕ) → 1 ≤ weigh l s (who.Notar m) → (i : ℕ) × (i < l.count) × ((cell_at l s i).notar ≡ m)
  unfolding weigh counts
  voted_by m h =
      by_test (some_to l.count (λ i. eqb (cell_at l s i).notar m))
      (λ t. let f = some_find l.count (λ i. eqb (cell_at l s i).notar m) t in (f.0, f.1, eqb-true (cell_at l s f.0).notar m f.2))
      (λ t.
      let z = weight_none l.stakes l.count (λ i. eqb (cell_at l s i).notar m) (λ i d. some_each l.count i (λ i. eqb (cell_at l s i).notar m) t d) in
      absurd (omega arith))

  -- where no block has weight there is no notar stake
  any_none : ((m : ℕ) → 1 ≤ m → weigh l s (who.Notar m) ≡ 0) → weigh l s who.AnyNotar ≡ 0
  unfolding weigh weight counts
  any_none f =
      omega (
        arith,
        sum_same l.count (λ i. part (not (none (cell_at l s i).notar)) (stake_in l.stakes i)) (λ _. 0)
            (λ i d.
            let m = (cell_at l s i).notar in
            by_test (none m)
            (λ t. part_off (not (none m)) (stake_in l.stakes i) (ap not t))
            (λ t.
            omega (
              arith,
              f m (omega (arith, eqb-false m 0 t)),
              sum_term l.count i (λ j. part (eqb (cell_at l s j).notar m) (stake_in l.stakes j)) d,
              part_on (eqb m m) (stake_in l.stakes i) (eq-eqb m m refl),
              part_on (not (none m)) (stake_in l.stakes i) (ap not t),
            ))),
        sum_const l.count 0,
      )

  module _ (b v : ℕ) where
    -- without a rival no block with notar weight leads the claim
    unled : has_rival l s b v l.count ≡ false → (m : ℕ) → 1 ≤ m → 1 ≤ weigh l s (who.Notar m) → leads m (weigh l s (who.Notar m)) b v ≡ false
    unfolding has_rival rivals
    unled e m h k =
        let f = voted_by m k in
        let r = some_each l.count f.0 (λ i. rivals l s b v (cell_at l s i).notar) e f.1 in
        let q : rivals l s b v m ≡ false = ap (λ (x : ℕ). rivals l s b v x) (sym f.2) ∙ r in
        by_test (leads m (weigh l s (who.Notar m)) b v)
        (λ t. true_not_false (not (none m) && leads m (weigh l s (who.Notar m)) b v) (both_and (not (none m)) (leads m (weigh l s (who.Notar m)) b v) (ap not (ne_eqb m 0 (λ z. omega arith))) t) q)
        (λ t. t)

    -- so it is the leader
    unled_leads : 1 ≤ b → 1 ≤ v → weigh l s (who.Notar b) ≡ v → has_rival l s b v l.count ≡ false → Lead l s b v
    unled_leads y x z e =
        record {
          empty = λ i. absurd (omega arith);
          block = λ _. y;
          weight = λ _. z;
          above = λ m h. by_test (leb 1 (weigh l s (who.Notar m)))
              (λ t. leads_off m (weigh l s (who.Notar m)) b v (unled e m h (leb-true 1 (weigh l s (who.Notar m)) t)) (λ i. omega arith) (λ i j. omega arith))
              (λ t. omega (arith, leb-false 1 (weigh l s (who.Notar m)) t));
          lower = λ m h k q. leads_off m (weigh l s (who.Notar m)) b v (unled e m h (omega arith)) (λ i. absurd (omega arith)) (λ i j. j);
        }

    -- and the leader has no rival
    leads_unled : 1 ≤ v → Lead l s b v → has_rival l s b v l.count ≡ false
    unfolding has_rival rivals
    leads_unled x g =
        by_test (has_rival l s b v l.count)
        (λ t.
        let f = some_find l.count (λ i. rivals l s b v (cell_at l s i).notar) t in
        let m = (cell_at l s f.0).notar in
        let p = and_both (not (none m)) (leads m (weigh l s (who.Notar m)) b v) f.2 in
        let h : 1 ≤ m = omega (arith, eqb-false m 0 (not-true (none m) p.0)) in
        leads_on m (weigh l s (who.Notar m)) b v p.1 (λ i. absurd (omega (arith, g.above m h))) (λ i j. absurd (omega (arith, g.lower m h x (sym i)))))
        (λ t. t)

    -- ---- the leader on the card

    abbrev fits : Bool
    fits = eqb b (leader l s) && eqb v (most l s)

    -- what fits leads
    fits_leads : fits ≡ true → Lead l s b v
    fits_leads e =
        let p = and_both (eqb b (leader l s)) (eqb v (most l s)) e in
        rw (eqb-true b (leader l s) p.0, eqb-true v (most l s) p.1) (lead_recount l s)

    leads_fits : Lead l s b v → fits ≡ true
    leads_fits g =
        let r = recount_leader l s b v g in
        both_and (eqb b (leader l s)) (eqb v (most l s)) (eq-eqb b (leader l s) (sym r.0)) (eq-eqb v (most l s) (sym r.1))

    unfit : (Lead l s b v → ⊥) → false ≡ fits
    unfit f = by_test fits (λ t. absurd (f (fits_leads t))) (λ t. sym t)

    -- no block
    pub fits_none : (any : ℕ) → any ≡ weigh l s who.AnyNotar → b ≡ 0 → (eqb v 0 && eqb any 0) ≡ fits
    fits_none any f e =
        same_test (eqb v 0 && eqb any 0) fits
        (λ t.
        let p = and_both (eqb v 0) (eqb any 0) t in
        leads_fits (rw (e, eqb-true v 0 p.0) (lead_none l s (sym f ∙ eqb-true any 0 p.1))))
        (λ t.
        let g = fits_leads t in
        let z : v ≡ 0 = by_test (leb 1 v) (λ u. absurd (omega (arith, g.block (leb-true 1 v u)))) (λ u. omega (arith, leb-false 1 v u)) in
        both_and (eqb v 0) (eqb any 0) (eq-eqb v 0 z) (eq-eqb any 0 (f ∙ any_none (λ m h. omega (arith, g.above m h)))))

    -- no weight, or another than the block has
    pub fits_light : (w : ℕ) → w ≡ weigh l s (who.Notar b) → (b ≡ 0 → ⊥) → (eqb v 0 || not (eqb w v)) ≡ true → false ≡ fits
    fits_light w e ne t =
        unfit (λ g. or_cases (eqb v 0) (not (eqb w v)) t (λ u. ne (g.empty (eqb-true v 0 u)))
        (λ u. by_test (leb 1 v) (λ i. eqb-false w v (not-true (eqb w v) u) (e ∙ g.weight (leb-true 1 v i))) (λ i. ne (g.empty (omega (arith, leb-false 1 v i))))))

    module _ (w : ℕ) (e : w ≡ weigh l s (who.Notar b)) (ne : b ≡ 0 → ⊥) (t : (eqb v 0 || not (eqb w v)) ≡ false) where
      -- it has weight, and that is on the card
      pub claim_some : 1 ≤ v
      claim_some = omega (arith, eqb-false v 0 (or_none (eqb v 0) (not (eqb w v)) t).0)

      pub claim_same : w ≡ v
      claim_same = eqb-true w v (not-false (eqb w v) (or_none (eqb v 0) (not (eqb w v)) t).1)

      -- more than all the others together
      pub fits_quick : (any : ℕ) → any ≡ weigh l s who.AnyNotar → any < w + w → true ≡ fits
      fits_quick any f h = sym (leads_fits (lead_quick l s b v (omega arith) claim_some (sym e ∙ claim_same) (omega (arith, claim_same))))

      -- else by the rivals
      pub fits_unled : (r : Bool) → r ≡ has_rival l s b v l.count → not r ≡ fits
      fits_unled r f =
          ap not f
          ∙ same_test (not (has_rival l s b v l.count)) fits
          (λ u. leads_fits (unled_leads (omega arith) claim_some (sym e ∙ claim_same) (not-true (has_rival l s b v l.count) u)))
          (λ u. ap not (leads_unled claim_some (fits_leads u)))
