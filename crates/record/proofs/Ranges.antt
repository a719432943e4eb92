-- A test of each number of a range: what `all` and `any` find is all_to and some_to. Assumes nothing.
use mathlib.Core.Path.{◌≡◌, refl, sym, ap, ◌∙◌}
use mathlib.Core.Bool.{Bool, true, false, ◌&&◌, ◌||◌}
use mathlib.Core.List.{List}
use Prim.Native.Nat.{ℕ, zero, suc, ◌+◌}
use native.Mathlib.Omega.{arith}
use denote.Param.Members.{Mut}
use Rattle.std.specs.declared.ops.Range.{Range}
use Rattle.std.proofs.Common.{Option}
use Rattle.std.proofs.iter.Yields.{nat_range_steps}
use Rattle.std.specs.Fn.{Called}
use Rattle.std.specs.Iterator.{YieldsThen}
use Rattle.std.specs.List.{range_with_len, list_all, list_any, FoldsTo}
use Rattle.std.specs.Option.{MatchOption}
use Rattle.std.proofs.lemmas.Iterator.{YieldsList-from_range}
use Rattle.std.proofs.lemmas.Iterator.Search.{all_from_yields_List, any_from_yields_List}
use Rattle.rulebook.specs.Tools.{all_to, some_to}
use Rattle.record.proofs.BlockPlaces.{all_first, some_first}

module _ (f : ℕ → Bool) where
  -- Numbers from a on.
  all_listed : (n a : ℕ) → list_all f (range_with_len a n) ≡ all_to n (λ i. f (a + i))
  unfolding all_to
  all_listed zero a = refl
  all_listed (suc n) a =
      let z : (i : ℕ) → a + 1 + i ≡ a + suc i = (λ i. omega arith) in
      let y : a ≡ a + 0 = omega arith in
      ap (λ b. f a && b) (all_listed n (a + 1) ∙ (λ j. all_to n (λ i. f (z i j))))
      ∙ ap (λ k. f k && all_to n (λ i. f (a + suc i))) y
      ∙ sym (all_first n (λ i. f (a + i)))

  some_listed : (n a : ℕ) → list_any f (range_with_len a n) ≡ some_to n (λ i. f (a + i))
  unfolding some_to
  some_listed zero a = refl
  some_listed (suc n) a =
      let z : (i : ℕ) → a + 1 + i ≡ a + suc i = (λ i. omega arith) in
      let y : a ≡ a + 0 = omega arith in
      ap (λ b. f a || b) (some_listed n (a + 1) ∙ (λ j. some_to n (λ i. f (z i j))))
      ∙ ap (λ k. f k || some_to n (λ i. f (a + suc i))) y
      ∙ sym (some_first n (λ i. f (a + i)))

from_none : (i : ℕ) → 0 + i ≡ i
from_none i = omega arith

module _ {F : Type 0} {g : Mut F (ℕ × Unit {0}) Bool} {s u : Range ℕ} (n : ℕ) (test : ℕ → Bool) (f : F) (r : Bool) (is : s ≡ record { start = 0; end = n }) where
  pub all_below : (xs : List ℕ) × (o : Option ℕ) × (j : F) × YieldsThen nat_range_steps s xs o u × FoldsTo (λ p x q. Called g p (x, tt) true q) f xs j × MatchOption o (r ≡ true) (λ x. (r ≡ false) × ((h : F) × Called g j (x, tt) false h))
      → ((x : ℕ) (b : Bool) (q : F) → Called g f (x, tt) b q → (q ≡ f) × (b ≡ test x)) → r ≡ all_to n test
  all_below ran k = all_from_yields_List test u f r ran (YieldsList-from_range 0 n n is (omega arith)) k ∙ all_listed test n 0 ∙ (λ j. all_to n (λ i. test (from_none i j)))

  pub some_below : (xs : List ℕ) × (o : Option ℕ) × (j : F) × YieldsThen nat_range_steps s xs o u × FoldsTo (λ p x q. Called g p (x, tt) false q) f xs j × MatchOption o (r ≡ false) (λ x. (r ≡ true) × ((h : F) × Called g j (x, tt) true h))
      → ((x : ℕ) (b : Bool) (q : F) → Called g f (x, tt) b q → (q ≡ f) × (b ≡ test x)) → r ≡ some_to n test
  some_below ran k = any_from_yields_List test u f r ran (YieldsList-from_range 0 n n is (omega arith)) k ∙ some_listed test n 0 ∙ (λ j. some_to n (λ i. test (from_none i j)))
