-- The blocks that D applies to are among the six that can have 20 percent of notar votes. Assumes nothing.
use mathlib.Core.Path.{◌≡◌, sym, ap, ◌∙◌}
use mathlib.Core.Bool.{Bool, true, ◌&&◌}
use mathlib.Core.List.{List}
use mathlib.Core.Logic.{⊎_elim}
use Prim.Native.Nat.{ℕ, zero, suc, ◌+◌, ◌≤◌, ◌<◌}
use native.Mathlib.Omega.{arith}
use native.Mathlib.Numerals.{add-one}
use native.Mathlib.Nat.{eq-or-lt_of_le}
use lib.ListN.{length, get_or}
use lib.Dec.{eqb}
use borrow.Author.Tests.{ne_eqb, eqb-true}
use Rattle.rulebook.specs.declared.Who.TheVariants as who
use Rattle.rulebook.specs.Tools.{lower, lowest}
use Rattle.rulebook.specs.Weights.{reaches}
use Rattle.rulebook.specs.Ledger.{Ledger}
use Rattle.rulebook.specs.Pool.{names, names_to, weigh}
use Rattle.rulebook.specs.Rules.{fallback_weights, falls_back, fallback_block}
use Rattle.rule_laws.proofs.ToolLaws.{or_cases, and_both, some_find}
use Rattle.rule_laws.proofs.WeightLaws.{reaches_fewer}
use Rattle.rule_laws.proofs.LowestLaws.{Among, ZeroFree, among_named, among_name, free_none, free_named, free_positive, names_free, heavy_named, lowest_none, lowest_same, lower_off}
use Rattle.record.specs.Tabled.{Tabled}
use Rattle.pool.specs.Weighing.{named_holds}
use Rattle.pool.proofs.NameLaws.{holds_none, holds_some}
use Rattle.counters.specs.Counting.{counters, word, among}
use Rattle.heavy_blocks.specs.Heavy.{Heavy}
use Rattle.candidates.specs.Judging.{blocks_to}
use Rattle.candidates.proofs.NotarLaws.{falls_weights, falls_heavy}
use Rattle.candidates.proofs.NewcomerLaws.{lowest_named}

-- ---- one block further

pub fallback_off : (p : ℕ → Bool) (b m : ℕ) → b ≡ 0 → m ≡ lower (named_holds p b) b m
fallback_off p b m e = sym (ap (λ (x : Bool). lower x b m) (ap (named_holds p) e ∙ holds_none p) ∙ lower_off b m)

pub fallback_on : (p : ℕ → Bool) (b m r : ℕ) (x : Bool) → (b ≡ 0 → ⊥) → x ≡ p b → r ≡ lower x b m → r ≡ lower (named_holds p b) b m
fallback_on p b m r x z e q = q ∙ ap (λ (y : Bool). lower y b m) (e ∙ sym (holds_some p b (ne_eqb b 0 z)))

module _ (p : ℕ → Bool) (r : List ℕ) where
  pub blocks_start : 0 ≡ lowest p (blocks_to r 0)
  unfolding blocks_to
  blocks_start = sym (lowest_none p)

  pub blocks_next : (n best next : ℕ) → best ≡ lowest p (blocks_to r n) → next ≡ lower (named_holds p (get_or r n 0)) (get_or r n 0) best → next ≡ lowest p (blocks_to r (n + 1))
  unfolding blocks_to
  blocks_next n best next h e =
      rw add-one (e ∙ ap (lower (named_holds p (get_or r n 0)) (get_or r n 0)) h ∙ sym (lowest_named p (get_or r n 0) (blocks_to r n)))

  blocks_free : (n : ℕ) → ZeroFree (blocks_to r n)
  unfolding blocks_to
  blocks_free zero = free_none
  blocks_free (suc n) = free_named (get_or r n 0) (blocks_to r n) (blocks_free n)

  blocks_among : (n i b : ℕ) → i < n → get_or r i 0 ≡ b → 1 ≤ b → Among b (blocks_to r n)
  unfolding blocks_to
  blocks_among zero i b h e k = absurd (omega arith)
  blocks_among (suc n) i b h e k =
      ⊎_elim
      (λ (q : i ≡ n).
      let f : b ≡ get_or r n 0 = sym e ∙ ap (λ (j : ℕ). get_or r j 0) q in
      among_name b (get_or r n 0) (blocks_to r n) f (ne_eqb (get_or r n 0) 0 (λ o. omega arith)))
      (λ q. among_named b (get_or r n 0) (blocks_to r n) (blocks_among n i b q e k))
      (eq-or-lt_of_le {n = i} {m = n} (omega arith))

-- ---- the six

module _ (l : Ledger) (s : ℕ) (table : Tabled l) (r : List ℕ) (six : Heavy (λ m. who.Notar m) 1 l s r) where
  weights_fifth : (b : ℕ) → fallback_weights l s b ≡ true → reaches 1 l.total (weigh l s (who.Notar b)) ≡ true
  unfolding fallback_weights
  weights_fifth b e =
      let w = weigh l s (who.Notar b) in
      or_cases (reaches 2 l.total w) (reaches 1 l.total w && reaches 3 l.total (weigh l s who.Skip + w)) e
      (λ t. reaches_fewer 1 2 l.total w (omega arith) t)
      (λ t. (and_both (reaches 1 l.total w) (reaches 3 l.total (weigh l s who.Skip + w)) t).0)

  six_among : (b : ℕ) → 1 ≤ b → falls_back l s b ≡ true → Among b (blocks_to r (length r))
  unfolding among
  six_among b h e =
      let f = some_find counters (λ i. eqb (word r i) b) (six.has b h (weights_fifth b (falls_weights l s b e))) in
      blocks_among (falls_back l s) r (length r) f.0 b (omega (arith, f.1, six.long)) (eqb-true (word r f.0) b f.2) h

  pub six_lowest : lowest (falls_back l s) (blocks_to r (length r)) ≡ fallback_block l s
  unfolding fallback_block names
  six_lowest =
      lowest_same (falls_back l s) (blocks_to r (length r)) (names_to l s l.count) (blocks_free (falls_back l s) r (length r)) (names_free l s l.count)
      (λ b h e. heavy_named l s b (free_positive (blocks_to r (length r)) b (blocks_free (falls_back l s) r (length r)) h) (falls_heavy l s b table e))
      (λ b h e. six_among b (free_positive (names_to l s l.count) b (names_free l s l.count) h) e)
