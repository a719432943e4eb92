-- What a loop over a slot's places for blocks finds. Assumes nothing.
use mathlib.Core.Path.{◌≡◌, sym, ap, ◌∙◌}
use mathlib.Core.Bool.{Bool, true, false}
use mathlib.Core.List.{List}
use Prim.Native.Nat.{ℕ, suc, ◌<◌}
use native.Mathlib.Omega.{arith}
use lib.ListN.{length, get_or}
use Rattle.std.specs.Bool.{MatchBool}
use Rattle.std.specs.List.{range_with_len, HoldsAt, AllWithin}
use Rattle.std.proofs.lemmas.List.FromFn.{length-range_with_len, get_or-range_with_len}
use Rattle.rulebook.specs.declared.Block.{Block}
use Rattle.rulebook.specs.Tools.{some_to, all_to}
use Rattle.rulebook.specs.Weights.{last_slot}
use Rattle.rulebook.specs.Ledger.{no_block, most_blocks, blocks_at, some_block, all_blocks}
use Rattle.rule_laws.proofs.ToolLaws.{true_not_false, by_test, some_at, some_find, all_at, all_each}
use Rattle.record.specs.Layout.{ledger_of}
use Rattle.record.proofs.Reading.{ledger_shaped}
use Rattle.record.proofs.BlockPlaces.{some_places, all_places}

-- What a test of each number below n found: one that has Yes, or all have No.
abbrev Found : (Yes No : ℕ → Type 0) (n : ℕ) → Bool → Type 0
Found Yes No n r =
    MatchBool r ((k : ℕ) × (k < length (range_with_len 0 n)) × HoldsAt Yes (range_with_len 0 n) k) (AllWithin No (range_with_len 0 n) 0 (length (range_with_len 0 n)))

-- Likewise, where it was to hold of each: all have Yes, or one that has No.
abbrev FoundNone : (Yes No : ℕ → Type 0) (n : ℕ) → Bool → Type 0
FoundNone Yes No n r =
    MatchBool r (AllWithin Yes (range_with_len 0 n) 0 (length (range_with_len 0 n))) ((k : ℕ) × (k < length (range_with_len 0 n)) × HoldsAt No (range_with_len 0 n) k)

-- As the definitions ask them one by one.
pub some_found : (n : ℕ) (f : ℕ → Bool) (r : Bool) → Found (λ k. f k ≡ true) (λ k. f k ≡ false) n r → r ≡ some_to n f
some_found n f true h =
    let b : h.0 < n = omega (arith, h.1, length-range_with_len 0 n) in
    sym (some_at n h.0 f b (ap f (sym (get_or-range_with_len 0 n h.0 0 b ∙ omega arith)) ∙ h.2 0))
some_found n f false h =
    by_test (some_to n f)
    (λ q.
    let k = some_find n f q in
    let e : f k.0 ≡ false = ap f (sym (get_or-range_with_len 0 n k.0 0 k.1 ∙ omega arith)) ∙ h k.0 0 (omega arith) (omega (arith, k.1, length-range_with_len 0 n)) in
    true_not_false (f k.0) k.2 e)
    sym

pub all_found : (n : ℕ) (f : ℕ → Bool) (r : Bool) → FoundNone (λ k. f k ≡ true) (λ k. f k ≡ false) n r → r ≡ all_to n f
all_found n f true h =
    sym (all_each n f (λ i b. ap f (sym (get_or-range_with_len 0 n i 0 b ∙ omega arith)) ∙ h i 0 (omega arith) (omega (arith, length-range_with_len 0 n))))
all_found n f false h =
    let b : h.0 < n = omega (arith, h.1, length-range_with_len 0 n) in
    by_test (all_to n f)
    (λ q. true_not_false (f h.0) (all_at n h.0 f q b) (ap f (sym (get_or-range_with_len 0 n h.0 0 b ∙ omega arith)) ∙ h.2 0))
    sym

-- All places.
module _ (ws : List ℕ) (s : ℕ) (h : s < suc last_slot) where
  abbrev pub place : ℕ → Block
  place i = get_or (blocks_at (ledger_of ws) s) i no_block

  pub some_kept : (p : Block → Bool) (r : Bool) → Found (λ i. p (place i) ≡ true) (λ i. p (place i) ≡ false) most_blocks r → r ≡ some_block p (blocks_at (ledger_of ws) s)
  some_kept p r f =
      some_found most_blocks (λ i. p (place i)) r f
      ∙ ap (λ (m : ℕ). some_to m (λ i. p (place i))) (sym ((ledger_shaped ws).blocks s h))
      ∙ sym (some_places p (blocks_at (ledger_of ws) s))

  pub all_kept : (p : Block → Bool) (r : Bool) → FoundNone (λ i. p (place i) ≡ true) (λ i. p (place i) ≡ false) most_blocks r → r ≡ all_blocks p (blocks_at (ledger_of ws) s)
  all_kept p r f =
      all_found most_blocks (λ i. p (place i)) r f
      ∙ ap (λ (m : ℕ). all_to m (λ i. p (place i))) (sym ((ledger_shaped ws).blocks s h))
      ∙ sym (all_places p (blocks_at (ledger_of ws) s))
