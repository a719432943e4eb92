-- Laws of blocks in order: the next block one node further.
-- Assumes nothing.
use mathlib.Core.Path.{◌≡◌, sym, ap, ◌∙◌}
use mathlib.Core.Bool.{Bool, false}
use mathlib.Core.List.{List}
use Prim.Native.Nat.{ℕ, ◌+◌, ◌-◌}
use native.Mathlib.Omega.{arith}
use lib.Dec.{ltb}
use borrow.Author.Tests.{le-ltb, eqb-true, eqb-false}
use Rattle.rulebook.specs.declared.Cell.{Cell}
use Rattle.rulebook.specs.Tools.{lower, lowest}
use Rattle.rulebook.specs.Ledger.{Ledger, none, cell_at}
use Rattle.rulebook.specs.Pool.{named, names_to, names}
use Rattle.rule_laws.proofs.ToolLaws.{by_test}
use Rattle.pool.proofs.NameLaws.{names_none, names_more}
use Rattle.rule_laws.proofs.LowestLaws.{lower_off, lowest_none, lowest_skip, lowest_take}
use Rattle.shown_blocks.specs.Blocks.{lower_named}

-- ---- the lowest block that passes

module _ (p : ℕ → Bool) (zero-fails : p 0 ≡ false) where
  lowest_named : (b : ℕ) (bs : List ℕ) → lowest p (named b bs) ≡ lower (p b) b (lowest p bs)
  lowest_named b bs =
      by_test (none b)
      (λ e.
      let z = eqb-true b 0 e in
      lowest_skip b bs p z ∙ sym (ap (λ (t : Bool). lower t b (lowest p bs)) (ap p z ∙ zero-fails) ∙ lower_off b (lowest p bs)))
      (λ e. lowest_take b bs p (eqb-false b 0 e))

  module _ (l : Ledger) (s : ℕ) where
    pub next_start : 0 ≡ lowest p (names_to l s 0)
    next_start = sym (ap (lowest p) (names_none l s) ∙ lowest_none p)

    pub next_more : (n : ℕ) (c : Cell) (best r : ℕ) → c ≡ cell_at l s n → best ≡ lowest p (names_to l s n)
        → r ≡ lower_named p c best → r ≡ lowest p (names_to l s (n + 1))
    unfolding lower_named
    next_more n c best r e h q =
        let next : ℕ → ℕ → ℕ = (λ b m. lower (p b) b m) in
        let d = named c.fallback3 (names_to l s n) in
        let f = named c.fallback2 d in
        let g = named c.fallback1 f in
        q ∙ ap (λ (m : ℕ). next c.notar (next c.fallback1 (next c.fallback2 (next c.fallback3 m)))) h
        ∙ ap (λ (m : ℕ). next c.notar (next c.fallback1 (next c.fallback2 m))) (sym (lowest_named c.fallback3 (names_to l s n)))
        ∙ ap (λ (m : ℕ). next c.notar (next c.fallback1 m)) (sym (lowest_named c.fallback2 d))
        ∙ ap (next c.notar) (sym (lowest_named c.fallback1 f))
        ∙ sym (lowest_named c.notar g)
        ∙ ap (lowest p) (sym (names_more l s n c e))

    pub next_done : (n r : ℕ) → r ≡ lowest p (names_to l s n) → n ≡ l.count → r ≡ lowest p (names l s)
    unfolding names
    next_done n r h e = h ∙ ap (λ (m : ℕ). lowest p (names_to l s m)) e

-- 0 comes after no block
pub after_none : (after : ℕ) → ltb after 0 ≡ false
after_none after = le-ltb after 0 (omega arith)
