-- The names of a slot that hold kind 3 are among the six blocks that can. Assumes nothing.
use mathlib.Core.Path.{◌≡◌, sym, ap, ◌∙◌}
use mathlib.Core.Bool.{Bool, true, false, not, ◌&&◌, ◌||◌}
use mathlib.Core.List.{List}
use Prim.Native.Nat.{ℕ, ◌+◌, ◌<◌}
use native.Mathlib.Omega.{arith}
use lib.ListN.{length, get_or}
use lib.Dec.{eqb}
use borrow.Author.Tests.{eqb-true, eqb-false, not-true}
use Rattle.rulebook.specs.declared.Who.TheVariants as who
use Rattle.rulebook.specs.declared.CertificateKind.TheVariants as certificate
use Rattle.rulebook.specs.Tools.{some_to, any_of}
use Rattle.rulebook.specs.Weights.{reaches}
use Rattle.rulebook.specs.Ledger.{Ledger, none, cell_at, certificates_at}
use Rattle.rulebook.specs.Pool.{counts, weigh, weighs, reached, held, names, signers_of, fifths_of}
use Rattle.rule_laws.proofs.ToolLaws.{by_test, true_not_false, and_both, some_none, some_more, some_at, some_find, some_each}
use Rattle.rule_laws.proofs.WeightLaws.{weight_none, reaches_nothing}
use Rattle.record.specs.Tabled.{Tabled}
use Rattle.pool.specs.Weighing.{named_holds, counted_before}
use Rattle.counters.specs.Counting.{counters, word, among}
use Rattle.heavy_blocks.specs.Heavy.{Heavy}
use Rattle.parents.specs.Naming.{some_kept_holds}
use Rattle.parents.proofs.AnyLaws.{holds_earlier}
use Rattle.parents.proofs.FewLaws.{unkept_held, none_held}

-- ---- one name

pub named_none : (p : ℕ → Bool) (b : ℕ) → b ≡ 0 → false ≡ named_holds p b
unfolding named_holds
named_none p b e = λ i. not (none (sym e i)) && p b

module _ (l : Ledger) (s : ℕ) where
  abbrev holds : ℕ → Bool
  holds = held l certificate.NotarFallback s

  -- a block without votes is not reached
  unvoted : Tabled l → (b : ℕ) → counted_before l s l.count (who.NotarOrFallback b) ≡ false → reached l certificate.NotarFallback s b ≡ false
  unfolding counted_before reached weighs signers_of fifths_of weigh
  unvoted table b e =
      ap (reaches 3 l.total) (weight_none l.stakes l.count (λ n. counts (who.NotarOrFallback b) (cell_at l s n)) (λ i h. some_each l.count i (λ i. counts (who.NotarOrFallback b) (cell_at l s i)) e h))
      ∙ reaches_nothing 3 l.total (omega arith) table.some

  module _ (table : Tabled l) (k : some_kept_holds holds (certificates_at l s) ≡ false) where
    name_facts : (b : ℕ) → named_holds holds b ≡ true → (none b ≡ false) × (holds b ≡ true)
    unfolding named_holds
    name_facts b t = let p = and_both (not (none b)) (holds b) t in (not-true (none b) p.0, p.1)

    -- a block that holds kind 3 is a name
    held_named : (b : ℕ) → named_holds holds b ≡ true → any_of holds (names l s) ≡ true
    unfolding names
    held_named b t =
        let p = name_facts b t in
        by_test (any_of holds (names l s)) (λ u. u)
        (λ u.
        true_not_false (holds b) p.1
        (by_test (counted_before l s l.count (who.NotarOrFallback b)) (holds_earlier holds l s l.count b p.0 u)
        (λ d. unkept_held l s k b p.0 ∙ unvoted table b d)))

    module _ (r : List ℕ) (six : Heavy (λ m. who.NotarOrFallback m) 3 l s r) where
      abbrev Some : Bool
      Some = some_to (length r) (λ i. named_holds holds (get_or r i 0))

      none_else : Some ≡ false → (b : ℕ) → named_holds holds b ≡ false
      unfolding reached weighs signers_of fifths_of among
      none_else e b =
          by_test (named_holds holds b)
          (λ t.
          let p = name_facts b t in
          let z = eqb-false b 0 p.0 in
          let a = some_find counters (λ i. eqb (word r i) b) (six.has b (omega arith) (sym (unkept_held l s k b p.0) ∙ p.1)) in
          true_not_false (named_holds holds (get_or r a.0 0)) (ap (named_holds holds) (eqb-true (word r a.0) b a.2) ∙ t)
          (some_each (length r) a.0 (λ i. named_holds holds (get_or r i 0)) e (omega (arith, a.1, six.long))))
          (λ t. t)

      pub six_held : Some ≡ any_of holds (names l s)
      six_held =
          by_test Some
          (λ t. let f = some_find (length r) (λ i. named_holds holds (get_or r i 0)) t in t ∙ sym (held_named (get_or r f.0 0) f.2))
          (λ t. t ∙ sym (none_held l s k (none_else t)))

-- ---- the loop over the blocks

module _ (p : ℕ → Bool) (r : List ℕ) where
  abbrev pub NoneTo : ℕ → Type 0
  NoneTo n = some_to n (λ i. named_holds p (get_or r i 0)) ≡ false

  pub none_start : NoneTo 0
  none_start = some_none (λ i. named_holds p (get_or r i 0))

  pub none_next : (n : ℕ) → NoneTo n → named_holds p (get_or r n 0) ≡ false → NoneTo (n + 1)
  none_next n h e = some_more n (λ i. named_holds p (get_or r i 0)) ∙ (λ i. h i || e i)

  pub some_here : (n : ℕ) → n < length r → named_holds p (get_or r n 0) ≡ true → true ≡ some_to (length r) (λ i. named_holds p (get_or r i 0))
  some_here n h e = sym (some_at (length r) n (λ i. named_holds p (get_or r i 0)) h e)

  pub none_end : (n : ℕ) → n ≡ length r → NoneTo n → false ≡ some_to (length r) (λ i. named_holds p (get_or r i 0))
  none_end n e h = sym (ap (λ (k : ℕ). some_to k (λ i. named_holds p (get_or r i 0))) (sym e) ∙ h)
