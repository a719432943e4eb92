-- The leading notar block and its weight, said without lists; that there is one such pair, and that the recount gives it.
-- Assumes nothing.
use mathlib.Core.Path.{◌≡◌, refl, sym, ap, ◌∙◌}
use mathlib.Core.Bool.{Bool, true, false, not, ◌&&◌}
use mathlib.Core.List.{List, [], ◌∷◌}
use Prim.Native.Nat.{ℕ, ◌+◌, ◌≤◌, ◌<◌}
use native.Mathlib.Omega.{arith}
use native.Mathlib.Nat.{max-eq_left, max-eq_right}
use lib.Dec.{eqb, leb, ltb}
use borrow.Author.Tests.{eq-eqb, ne_eqb, eqb-true, eqb-false, leb-true, leb-false, ltb-true, ltb-false, not-true}
use Rattle.rulebook.specs.declared.Who.TheVariants as who
use Rattle.rulebook.specs.Tools.{any_of, choose, part, largest}
use Rattle.rulebook.specs.Ledger.{Ledger, none}
use Rattle.rulebook.specs.Pool.{weigh, names}
use Rattle.rulebook.specs.Cards.{leads, most, is_most, leader}
use Rattle.rule_laws.proofs.ToolLaws.{by_test, and_both, both_and, or_cases, or_none, or_left, or_right, true_not_false, part_on, part_off}
use Rattle.rule_laws.proofs.LowestLaws.{Among, low_find, low_le, large_at, names_free, heavy_named}

-- Block b leads slot s at weight w: both are 0 where there is no notar vote, else b has weight w, no block has more, and none
-- below b has as much.
pub record Lead (l : Ledger) (s b w : ℕ) : Type 0 where
  pub empty : w ≡ 0 → b ≡ 0
  pub block : 1 ≤ w → 1 ≤ b
  pub weight : 1 ≤ w → weigh l s (who.Notar b) ≡ w
  pub above : (m : ℕ) → 1 ≤ m → weigh l s (who.Notar m) ≤ w
  pub lower : (m : ℕ) → 1 ≤ m → 1 ≤ w → weigh l s (who.Notar m) ≡ w → b ≤ m

-- ---- there is one

pub lead_one : (l : Ledger) (s b w c v : ℕ) → Lead l s b w → Lead l s c v → (b ≡ c) × (w ≡ v)
lead_one l s b w c v h g =
    by_test (leb 1 w)
    (λ t.
    let i = leb-true 1 w t in
    let bb = h.block i in
    let wb = h.weight i in
    let le = g.above b bb in
    let j : 1 ≤ v = omega arith in
    let cc' = g.block j in
    let wc = g.weight j in
    let ge = h.above c cc' in
    let e : w ≡ v = omega arith in
    (omega (arith, h.lower c cc' i (wc ∙ sym e), g.lower b bb j (wb ∙ e)), e))
    (λ t.
    let i : w ≡ 0 = omega (arith, leb-false 1 w t) in
    by_test (leb 1 v)
    (λ u.
    let j = leb-true 1 v u in
    absurd (omega (arith, g.weight j, h.above c (g.block j))))
    (λ u.
    let j : v ≡ 0 = omega (arith, leb-false 1 v u) in
    (omega (arith, h.empty i, g.empty j), omega arith)))

-- ---- the recount gives it

-- the largest is some block's
large_find : (f : ℕ → ℕ) (bs : List ℕ) → 1 ≤ largest f bs → (b : ℕ) × Among b bs × (f b ≡ largest f bs)
unfolding largest any_of
large_find f [] h = absurd (omega arith)
large_find f (x ∷ bs) h =
    by_test (leb (largest f bs) (f x))
    (λ t. (x, or_left (eqb x x) (any_of (eqb x) bs) (eq-eqb x x refl), sym (max-eq_left (leb-true (largest f bs) (f x) t))))
    (λ t.
    let i : f x ≤ largest f bs = omega (arith, leb-false (largest f bs) (f x) t) in
    let e = max-eq_right i in
    let r = large_find f bs (omega arith) in
    (r.0, or_right (eqb r.0 x) (any_of (eqb r.0) bs) r.1, r.2 ∙ sym e))

module _ (l : Ledger) (s : ℕ) where
  most_fact : (b : ℕ) → is_most l s b ≡ true → (1 ≤ weigh l s (who.Notar b)) × (weigh l s (who.Notar b) ≡ most l s)
  unfolding is_most
  most_fact b e =
      let w = weigh l s (who.Notar b) in
      let h = and_both (not (none w)) (eqb w (most l s)) e in
      (omega (arith, eqb-false w 0 (not-true (none w) h.0)), eqb-true w (most l s) h.1)

  fact_most : (b : ℕ) → 1 ≤ weigh l s (who.Notar b) → weigh l s (who.Notar b) ≡ most l s → is_most l s b ≡ true
  unfolding is_most
  fact_most b h e =
      let w = weigh l s (who.Notar b) in
      both_and (not (none w)) (eqb w (most l s)) (ap not (ne_eqb w 0 (λ z. omega arith))) (eq-eqb w (most l s) e)

  above_most : (b : ℕ) → 1 ≤ b → weigh l s (who.Notar b) ≤ most l s
  unfolding most
  above_most b h =
      by_test (leb 1 (weigh l s (who.Notar b)))
      (λ t. large_at (λ m. weigh l s (who.Notar m)) (names l s) b (heavy_named l s b h (leb-true 1 (weigh l s (who.Notar b)) t)))
      (λ t. omega (arith, leb-false 1 (weigh l s (who.Notar b)) t))

  -- where there is a notar vote the leader is a block that has the most
  leader_found : 1 ≤ leader l s → is_most l s (leader l s) ≡ true
  unfolding leader
  leader_found h = (low_find (is_most l s) (names l s) h).1

  leader_low : (b : ℕ) → Among b (names l s) → is_most l s b ≡ true → (1 ≤ leader l s) × (leader l s ≤ b)
  unfolding leader names
  leader_low b h e = low_le (is_most l s) (names l s) b (names_free l s l.count) h e

  leader_there : 1 ≤ most l s → 1 ≤ leader l s
  unfolding most
  leader_there h =
      let r = large_find (λ m. weigh l s (who.Notar m)) (names l s) h in
      (leader_low r.0 r.1 (fact_most r.0 (omega (arith, r.2)) r.2)).0

  pub lead_recount : Lead l s (leader l s) (most l s)
  lead_recount =
      record {
        empty = λ e. by_test (leb 1 (leader l s))
            (λ t. let h = most_fact (leader l s) (leader_found (leb-true 1 (leader l s) t)) in absurd (omega arith))
            (λ t. omega (arith, leb-false 1 (leader l s) t));
        block = leader_there;
        weight = λ h. (most_fact (leader l s) (leader_found (leader_there h))).1;
        above = above_most;
        lower = λ m h k e. (leader_low m (heavy_named l s m h (omega arith)) (fact_most m (omega arith) e)).1;
      }

-- ---- which of two claims leads

module _ {ℓ} {X : Type ℓ} (b w m v : ℕ) where
  pub leads_on : leads b w m v ≡ true → (v < w → X) → (v ≡ w → b < m → X) → X
  unfolding leads
  leads_on e f g =
      or_cases (ltb v w) (eqb v w && ltb b m) e (λ t. f (ltb-true v w t))
      (λ t. let h = and_both (eqb v w) (ltb b m) t in g (eqb-true v w h.0) (ltb-true b m h.1))

  pub leads_off : leads b w m v ≡ false → (w < v → X) → (w ≡ v → m ≤ b → X) → X
  unfolding leads
  leads_off e f g =
      let h = or_none (ltb v w) (eqb v w && ltb b m) e in
      let i = ltb-false v w h.0 in
      by_test (eqb v w)
      (λ t.
      by_test (ltb b m) (λ u. true_not_false (eqb v w && ltb b m) (both_and (eqb v w) (ltb b m) t u) h.1)
      (λ u. g (sym (eqb-true v w t)) (ltb-false b m u)))
      (λ t. let n = eqb-false v w t in f (omega arith))

-- ---- how the leader changes

-- notar weights that stay leave it
pub lead_same : (l l' : Ledger) (s b w : ℕ) → ((m : ℕ) → 1 ≤ m → weigh l' s (who.Notar m) ≡ weigh l s (who.Notar m)) → Lead l s b w → Lead l' s b w
lead_same l l' s b w same h =
    record {
      empty = h.empty;
      block = h.block;
      weight = λ i. same b (h.block i) ∙ h.weight i;
      above = λ m i. omega (arith, same m i, h.above m i);
      lower = λ m i j e. h.lower m i j (sym (same m i) ∙ e);
    }

-- no claim leads nothing
pub blank_leads : (l : Ledger) (s m v : ℕ) → Lead l s m v → leads 0 0 m v ≡ false
blank_leads l s m v h =
    by_test (leads 0 0 m v)
    (λ t. leads_on 0 0 m v t (λ i. absurd (omega arith)) (λ i j. absurd (omega (arith, h.empty i))))
    (λ t. t)

-- One block b has st more: it leads at its new weight where that claim leads, else the old leader does.
module _ (l l' : Ledger) (s b st m v : ℕ) (b_is : 1 ≤ b) (st-is : 1 ≤ st)
    (more : (x : ℕ) → 1 ≤ x → weigh l' s (who.Notar x) ≡ weigh l s (who.Notar x) + part (eqb b x) st) (h : Lead l s m v) where
  else : (x : ℕ) → 1 ≤ x → eqb b x ≡ false → weigh l' s (who.Notar x) ≡ weigh l s (who.Notar x)
  else x i t = omega (arith, more x i, part_off (eqb b x) st t)

  here_at : (x : ℕ) → b ≡ x → weigh l' s (who.Notar x) ≡ weigh l s (who.Notar b) + st
  here_at x e = ap (λ (y : ℕ). weigh l' s (who.Notar y)) (sym e) ∙ omega (arith, more b b_is, part_on (eqb b b) st (eq-eqb b b refl))

  new_lead : leads b (weigh l s (who.Notar b) + st) m v ≡ true → Lead l' s b (weigh l s (who.Notar b) + st)
  new_lead t =
      let w : ℕ = weigh l s (who.Notar b) + st in
      let ge : v ≤ w = leads_on b w m v t (λ i. omega arith) (λ i j. omega arith) in
      record {
        empty = λ e. absurd (omega arith);
        block = λ _. b_is;
        weight = λ _. here_at b refl;
        above = λ x i. by_test (eqb b x) (λ u. omega (arith, here_at x (eqb-true b x u))) (λ u. omega (arith, else x i u, h.above x i));
        lower = λ x i j e. by_test (eqb b x) (λ u. omega (arith, eqb-true b x u))
            (λ u.
            let q = else x i u in
            let a = h.above x i in
            leads_on b w m v t (λ k. absurd (omega arith)) (λ k n. omega (arith, h.lower x i (omega arith) (omega arith))));
      }

  old_lead : leads b (weigh l s (who.Notar b) + st) m v ≡ false → Lead l' s m v
  old_lead t =
      let w : ℕ = weigh l s (who.Notar b) + st in
      let le : w ≤ v = leads_off b w m v t (λ i. omega arith) (λ i j. omega arith) in
      let i : 1 ≤ v = omega arith in
      let other : eqb b m ≡ false = ne_eqb b m (λ e. let z = ap (λ (y : ℕ). weigh l s (who.Notar y)) e in omega (arith, h.weight i)) in
      record {
        empty = h.empty;
        block = h.block;
        weight = λ j. else m (h.block j) other ∙ h.weight j;
        above = λ x j. by_test (eqb b x) (λ u. omega (arith, here_at x (eqb-true b x u))) (λ u. omega (arith, else x j u, h.above x j));
        lower = λ x j k e. by_test (eqb b x)
            (λ u.
            let q = eqb-true b x u in
            let y = here_at x q in
            leads_off b w m v t (λ n. absurd (omega arith)) (λ n o. omega arith))
            (λ u. h.lower x j k (sym (else x j u) ∙ e));
      }

  pub lead_more : (t : Bool) → leads b (weigh l s (who.Notar b) + st) m v ≡ t → Lead l' s (choose t b m) (choose t (weigh l s (who.Notar b) + st) v)
  unfolding choose
  lead_more true e = new_lead e
  lead_more false e = old_lead e
