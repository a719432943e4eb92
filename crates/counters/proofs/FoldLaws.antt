-- The invariant holds over any list of names with weights, so a name whose weight times k + 1 exceeds all weight has one of the k
-- counters at the end. Assumes nothing.
use mathlib.Core.Path.{◌≡◌, refl, ap}
use mathlib.Core.Bool.{Bool, true, false}
use mathlib.Core.List.{List}
use Prim.Native.Nat.{ℕ, ◌+◌, ◌*◌, ◌≤◌, ◌<◌}
use native.Mathlib.Omega.{arith}
use native.Mathlib.Nat.{add-mul}
use lib.Dec.{eqb}
use borrow.Author.Tests.{ne_eqb}
use Rattle.rulebook.specs.Tools.{part}
use Rattle.rule_laws.proofs.ToolLaws.{part_on, part_off}
use Rattle.counters.specs.Counting.{plus, among, Counting}
use Rattle.counters.specs.Fold.{Named, weight_in, all_in, Step, none, own, off, put, Steps, start, more}
use Rattle.counters.proofs.Laws.{counting_none, counting_less, counting_own, counting_off, counting_put, counting_end}

part_sum : (b : Bool) (e rest : ℕ) → part b (e + rest) ≡ part b e + part b rest
part_sum true e rest = omega (arith, part_on true (e + rest) refl, part_on true e refl, part_on true rest refl)
part_sum false e rest = omega (arith, part_off false (e + rest) refl, part_off false e refl, part_off false rest refl)

pub step_counting : {k x w : ℕ} {ns ws ms vs : ℕ → ℕ} {f : ℕ → ℕ} {all : ℕ} → Step k x w ns ws ms vs → Counting k f all ns ws → Counting k (plus f x w) (all + w) ms vs
step_counting {x = x} {w = w} {f = f} {all = all} (none e) c =
    counting_less (plus f x w) (all + w) (λ m s. omega (arith, part_off (eqb x m) w (ne_eqb x m (λ z. omega arith)))) (omega arith) c
step_counting {x = x} {w = w} {vs = vs} (own p h is e d) c = counting_own c x w vs p h is e d
step_counting {x = x} {w = w} {vs = vs} (off u d) c = counting_off c x w vs u d
step_counting {x = x} {w = w} {f = f} {all = all} (put {us} {ms} {vs} p e rest some h u is d free named same left other) c =
    counting_less (plus f x w) (all + w) (λ m s. omega (arith, ap (part (eqb x m)) is, part_sum (eqb x m) e rest)) (omega arith)
    (counting_put (counting_off c x e us u d) x rest ms vs p some h free u named same left other)

pub steps_counting : {k : ℕ} {xs : List Named} {ns ws : ℕ → ℕ} → Steps k xs ns ws → Counting k (weight_in xs) (all_in xs) ns ws
unfolding weight_in all_in
steps_counting {k} {ns = ns} {ws = ws} (start d e) = counting_none k (λ m. 0) ns ws d e (λ m h. refl)
steps_counting (more x r s) = step_counting s (steps_counting r)

-- a heavy name has a counter
pub steps_heavy : {k : ℕ} {xs : List Named} {ns ws : ℕ → ℕ} → Steps k xs ns ws → (m : ℕ) → 1 ≤ m → all_in xs < (k + 1) * weight_in xs m → among k ns m ≡ true
steps_heavy {k} {xs} r m s h = counting_end (steps_counting r) m s (omega (arith, expand k (weight_in xs m)))
  where
    expand : (k n : ℕ) → (k + 1) * n ≡ k * n + n
    expand k n = omega (arith, add-mul k 1 n)
