-- The code's steps on six counters. Assumes nothing.
use mathlib.Core.Path.{◌≡◌, refl, sym, ap, ◌∙◌}
use mathlib.Core.Bool.{Bool, true, false}
use mathlib.Core.List.{List}
use Prim.Native.Nat.{ℕ, ◌+◌, ◌-◌, ◌≤◌, ◌<◌, ◌^◌}
use native.Mathlib.Omega.{arith}
use lib.ListN.{length, set}
use lib.Seq.{get_or-set_same, get_or-set_other}
use lib.Dec.{eqb}
use borrow.Author.Tests.{ne_eqb, eqb-true, eqb-false}
use Rattle.rulebook.specs.Tools.{part, sum_to}
use Rattle.rule_laws.proofs.ToolLaws.{by_test, part_on, part_off, sum_le, sum_term, sum_change}
use Rattle.counters.specs.declared.Counter.{Counter}
use Rattle.counters.specs.Counting.{counters, empty, name_at, weight_at, plus, Unnamed, Lowered, Added}
use Rattle.counters.proofs.Laws.{counting_less, counting_names, counting_own, counting_off, counting_put}

-- ---- a counter is written

module _ (cs : List Counter) (p : ℕ) (d : Counter) where
  name_there : (i : ℕ) → (i ≡ p → ⊥) → name_at (set cs p d) i ≡ name_at cs i
  name_there i h = ap (λ (c : Counter). c.name) (get_or-set_other cs p i d empty h)

  weight_there : (i : ℕ) → (i ≡ p → ⊥) → weight_at (set cs p d) i ≡ weight_at cs i
  weight_there i h = ap (λ (c : Counter). c.weight) (get_or-set_other cs p i d empty h)

  module _ (h : p < length cs) where
    name_here : name_at (set cs p d) p ≡ d.name
    name_here = ap (λ (c : Counter). c.name) (get_or-set_same cs p d empty h)

    weight_here : weight_at (set cs p d) p ≡ d.weight
    weight_here = ap (λ (c : Counter). c.weight) (get_or-set_same cs p d empty h)

-- ---- w more for x

-- no counter has more than all
pub weight_room : (cs : List Counter) (w i : ℕ) → i < counters → sum_to counters (weight_at cs) + w < 2 ^ 64 → weight_at cs i + w < 2 ^ 64
weight_room cs w i h d = omega (arith, sum_term counters i (weight_at cs) h)

module _ (x w : ℕ) (cs : List Counter) where
  pub add_none : x ≡ 0 → Added x w cs cs
  add_none e =
      record {
        sum = omega arith;
        adding = λ f all c.
            counting_less (plus f x w) (all + w) (λ m s. omega (arith, part_off (eqb x m) w (ne_eqb x m (λ z. omega arith)))) (omega arith) c;
      }

  pub add_own : (p : ℕ) (d : Counter) → p < counters → length cs ≡ counters → name_at cs p ≡ x → d.name ≡ name_at cs p → d.weight ≡ weight_at cs p + w
      → Added x w cs (set cs p d)
  add_own p d h long is same more =
      let here = weight_here cs p d (omega arith) in
      record {
        sum = omega (arith, sum_change counters p (weight_at cs) (weight_at (set cs p d)) h (λ i j z. weight_there cs p d i z), here);
        adding = λ f all c.
            counting_names (counting_own c x w (weight_at (set cs p d)) p h is (here ∙ more) (λ i j z. weight_there cs p d i z)) (name_at (set cs p d))
            (λ i j. by_test (eqb i p) (λ t. let z = eqb-true i p t in ap (name_at (set cs p d)) z ∙ name_here cs p d (omega arith) ∙ same ∙ ap (name_at cs) (sym z)) (λ t. name_there cs p d i (eqb-false i p t)));
      }

  module _ (u : Unnamed counters (name_at cs) x) (ds : List Counter) (e : ℕ) (k : Lowered cs ds e) where
    sum_lowered : sum_to counters (weight_at ds) ≤ sum_to counters (weight_at cs)
    sum_lowered = sum_le counters (weight_at ds) (weight_at cs) (λ i h. omega (arith, k.each i h))

    pub add_off : e ≡ w → Added x w cs ds
    add_off d =
        record {
          sum = omega (arith, sum_lowered);
          adding = λ f all c.
              counting_names (counting_less (plus f x w) (all + w) (λ m s. omega (arith, ap (part (eqb x m)) d)) (omega arith) (counting_off c x e (weight_at ds) u k.each))
              (name_at ds) k.names;
        }

    split : (b : Bool) → e ≤ w → part b w ≡ part b e + part b (w - e)
    split true h = omega (arith, part_on true w refl, part_on true e refl, part_on true (w - e) refl)
    split false h = omega (arith, part_off false w refl, part_off false e refl, part_off false (w - e) refl)

    pub add_put : (p : ℕ) (d : Counter) → p < counters → length ds ≡ counters → 1 ≤ x → e ≤ w → e ≡ weight_at cs p → d.name ≡ x → d.weight ≡ w - e → Added x w cs (set ds p d)
    add_put p d h long some less is named left =
        let here = weight_here ds p d (omega arith) in
        record {
          sum = omega (arith, sum_lowered, sum_change counters p (weight_at ds) (weight_at (set ds p d)) h (λ i j z. weight_there ds p d i z), here);
          adding = λ f all c.
              counting_less (plus f x w) (all + w) (λ m s. omega (arith, split (eqb x m) less)) (omega arith)
              (counting_put (counting_off c x e (weight_at ds) u k.each) x (w - e) (name_at (set ds p d)) (weight_at (set ds p d)) p some h (omega (arith, k.each p h)) u
              (name_here ds p d (omega arith) ∙ named) (λ i j z. name_there ds p d i z ∙ k.names i j)
              (here ∙ left) (λ i j z. weight_there ds p d i z));
        }
