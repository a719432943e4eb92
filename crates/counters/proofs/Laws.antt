-- The counters' invariant, over any number of counters and any names with weights: it holds of empty counters, each step keeps it,
-- and at the end a name whose weight times k + 1 exceeds all weight has a counter. Assumes nothing.
use mathlib.Core.Path.{◌≡◌, sym, ap, ◌∙◌}
use mathlib.Core.Bool.{true, false}
use Prim.Native.Nat.{ℕ, ◌+◌, ◌*◌, ◌≤◌, ◌<◌}
use native.Mathlib.Omega.{arith}
use native.Mathlib.Nat.{mul-le-mul_left, mul-add}
use lib.Dec.{eqb}
use borrow.Author.Tests.{ne_eqb, eqb-true, eqb-false}
use Rattle.rulebook.specs.Tools.{some_to}
use Rattle.rule_laws.proofs.ToolLaws.{by_test, part_le, part_off, sum_same, sum_add, sum_const, sum_change, some_each}
use Rattle.counters.specs.Counting.{plus, Unnamed, among, Counting}

-- nothing counted
pub counting_none : (k : ℕ) (f ns ws : ℕ → ℕ) → ((i : ℕ) → i < k → ns i ≡ 0) → ((i : ℕ) → i < k → ws i ≡ 0) → ((m : ℕ) → 1 ≤ m → f m ≡ 0)
    → Counting k f 0 ns ws
counting_none k f ns ws d e z =
    record {
      off = 0;
      apart = λ i j h g s q. absurd (omega (arith, d i h));
      own = λ i h s. absurd (omega (arith, d i h));
      other = λ m s q. omega (arith, z m s);
      within = omega (arith, sum_same k ws (λ _. 0) e, sum_const k 0);
    }

-- less weight of each name, and more of all
pub counting_less : {k : ℕ} {f : ℕ → ℕ} {all : ℕ} {ns ws : ℕ → ℕ} (g : ℕ → ℕ) (more : ℕ) → ((m : ℕ) → 1 ≤ m → g m ≤ f m) → all ≤ more
    → Counting k f all ns ws → Counting k g more ns ws
counting_less {ns = ns} g more d h c =
    record {
      off = c.off;
      apart = c.apart;
      own = λ i j s. omega (arith, c.own i j s, d (ns i) s);
      other = λ m s q. omega (arith, c.other m s q, d m s);
      within = omega (arith, c.within);
    }

module _ {k : ℕ} {f : ℕ → ℕ} {all : ℕ} {ns ws : ℕ → ℕ} (c : Counting k f all ns ws) where
  -- the same names
  pub counting_names : (ms : ℕ → ℕ) → ((i : ℕ) → i < k → ms i ≡ ns i) → Counting k f all ms ws
  counting_names ms d =
      record {
        off = c.off;
        apart = λ i j a b s q. c.apart i j a b (omega (arith, d i a)) (sym (d i a) ∙ q ∙ d j b);
        own = λ i h s. omega (arith, c.own i h (omega (arith, d i h)), ap f (d i h));
        other = λ m s q. c.other m s (λ i h e. q i h (d i h ∙ e));
        within = c.within;
      }

  -- w more for the name of the counter p
  pub counting_own : (x w : ℕ) (vs : ℕ → ℕ) (p : ℕ) → p < k → ns p ≡ x → vs p ≡ ws p + w → ((i : ℕ) → i < k → (i ≡ p → ⊥) → vs i ≡ ws i)
      → Counting k (plus f x w) (all + w) ns vs
  counting_own x w vs p h is e d =
      record {
        off = c.off;
        apart = c.apart;
        own = λ i j s. by_test (eqb i p)
            (λ t. let q = eqb-true i p t in omega (arith, c.own i j s, part_le (eqb x (ns i)) w, ap vs q, ap ws q, e))
            (λ t. let q = eqb-false i p t in
            omega (arith, c.own i j s, d i j q, part_off (eqb x (ns i)) w (ne_eqb x (ns i) (λ z. q (c.apart i p j h s (sym z ∙ sym is))))));
        other = λ m s q. omega (arith, c.other m s q, part_off (eqb x m) w (ne_eqb x m (λ z. q p h (is ∙ z))));
        within = omega (arith, c.within, sum_change k p ws vs h d, e);
      }

  -- e off every counter, and e more for a name without one
  pub counting_off : (x e : ℕ) (vs : ℕ → ℕ) → Unnamed k ns x → ((i : ℕ) → i < k → vs i + e ≡ ws i) → Counting k (plus f x e) (all + e) ns vs
  counting_off x e vs u d =
      record {
        off = c.off + e;
        apart = c.apart;
        own = λ i j s. omega (arith, c.own i j s, d i j, part_off (eqb x (ns i)) e (ne_eqb x (ns i) (λ z. u i j (sym z))));
        other = λ m s q. omega (arith, c.other m s q, part_le (eqb x m) e);
        within = omega (
          arith,
          c.within,
          mul-add k c.off e,
          sum_add k vs (λ _. e),
          sum_const k e,
          sum_same k (λ i. vs i + e) ws d,
        );
      }

  -- an empty counter p for a name without one, at w
  module _ (x w : ℕ) (ms vs : ℕ → ℕ) (p : ℕ) (some : 1 ≤ x) (h : p < k) (free : ws p ≡ 0) (u : Unnamed k ns x) (is : ms p ≡ x)
      (same : (i : ℕ) → i < k → (i ≡ p → ⊥) → ms i ≡ ns i) (e : vs p ≡ w) (d : (i : ℕ) → i < k → (i ≡ p → ⊥) → vs i ≡ ws i) where
    put_here : (i : ℕ) → eqb i p ≡ true → ms i ≡ x
    put_here i t = ap ms (eqb-true i p t) ∙ is

    put_there : (i : ℕ) → i < k → eqb i p ≡ false → ms i ≡ ns i
    put_there i j t = same i j (eqb-false i p t)

    pub counting_put : Counting k (plus f x w) (all + w) ms vs
    counting_put =
        record {
          off = c.off;
          apart = λ i j a b s q. by_test (eqb i p)
              (λ t. by_test (eqb j p) (λ r. eqb-true i p t ∙ sym (eqb-true j p r)) (λ r. absurd (u j b (sym (put_there j b r) ∙ sym q ∙ put_here i t))))
              (λ t. by_test (eqb j p) (λ r. absurd (u i a (sym (put_there i a t) ∙ q ∙ put_here j r)))
              (λ r. c.apart i j a b (omega (arith, put_there i a t)) (sym (put_there i a t) ∙ q ∙ put_there j b r)));
          own = λ i j s. by_test (eqb i p)
              (λ t. omega (arith, ap f (put_here i t), c.other x some u, part_le (eqb x (ms i)) w, ap vs (eqb-true i p t), e))
              (λ t. omega (arith, ap f (put_there i j t), c.own i j (omega (arith, put_there i j t)), d i j (eqb-false i p t), part_off (eqb x (ms i)) w (ne_eqb x (ms i) (λ z. u i j (sym (put_there i j t) ∙ sym z)))));
          other = λ m s q. by_test (eqb (ns p) m)
              (λ t. let z = eqb-true (ns p) m t in
              omega (arith, c.own p h (omega arith), ap f z, free, part_off (eqb x m) w (ne_eqb x m (λ y. q p h (is ∙ y)))))
              (λ t. omega (
                arith,
                c.other m s (λ i j z. by_test (eqb i p) (λ r. eqb-false (ns p) m t (ap ns (sym (eqb-true i p r)) ∙ z)) (λ r. q i j (put_there i j r ∙ z))),
                part_off (eqb x m) w (ne_eqb x m (λ y. q p h (is ∙ y))),
              ));
          within = omega (arith, c.within, sum_change k p ws vs h d, e, free);
        }

  -- a heavy name has a counter
  pub counting_end : (m : ℕ) → 1 ≤ m → all < k * f m + f m → among k ns m ≡ true
  unfolding among
  counting_end m s h =
      by_test (some_to k (λ i. eqb (ns i) m)) (λ t. t)
      (λ t.
      let z = c.other m s (λ i j q. eqb-false (ns i) m (some_each k i (λ i. eqb (ns i) m) t j) q) in
      absurd (omega (arith, c.within, mul-le-mul_left k z)))
