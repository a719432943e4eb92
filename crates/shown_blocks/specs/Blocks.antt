-- The blocks that the votes of a slot name, in the order of their numbers.
use Rattle.std.specs.Prelude.{Bool, List, [], ◌∷◌, ℕ, ◌-◌, ltb}
use Rattle.rulebook.specs.declared.Cell.{Cell}
use Rattle.rulebook.specs.Tools.{lower, lowest}
use Rattle.rulebook.specs.Ledger.{Ledger}
use Rattle.rulebook.specs.Pool.{names}

-- The three places for notar-fallback blocks.
abbrev pub fallbacks : Cell → List ℕ
fallbacks c = c.fallback1 ∷ c.fallback2 ∷ c.fallback3 ∷ []

-- The lowest of the blocks that pass and that a cell names, and of the best so far, where 0 is none.
unfoldable pub lower_named : (ℕ → Bool) → Cell → ℕ → ℕ
lower_named p c best =
    let next : ℕ → ℕ → ℕ = (λ b m. lower (p b) b m) in
    next c.notar (next c.fallback1 (next c.fallback2 (next c.fallback3 best)))

-- The lowest block above `after` that the stored votes of slot s name, 0 where there is none.
unfoldable pub block_after : Ledger → ℕ → ℕ → ℕ
block_after l s after = lowest (ltb after) (names l s)

-- The lowest such block from a number on; every block's number is above 0.
unfoldable pub block_from : Ledger → ℕ → ℕ → ℕ
block_from l s from = block_after l s (from - 1)
