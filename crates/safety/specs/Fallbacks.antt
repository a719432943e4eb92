-- No fourth own fallback from a fresh start, whatever arrives, and every own fallback has rule D's weights. No premise on other nodes.
use Rattle.std.specs.Prelude.{◌≡◌, not, List, ℕ, T, Ok}
use Rattle.rulebook.specs.Ledger.{fresh, none, cell_at}
use Rattle.rulebook.specs.Pool.{has_fallback}
use Rattle.rulebook.specs.Rules.{fallback_weights}
use Rattle.rulebook.specs.Inputs.{start_verdict}
use Rattle.rulebook.specs.Taking.{Arrival}
use Rattle.safety.specs.Ring.{after_all}

-- Where a block that is not yet among the own fallbacks has rule D's weights, the third place is empty: so the test may go.
abbrev pub NoFourthFallback : Type 0
NoFourthFallback =
    (stakes : List ℕ) (me genesis : ℕ) → start_verdict stakes me genesis ≡ Ok tt → (lived : List Arrival) (s b : ℕ) → T (not (none b))
    → T (fallback_weights (after_all (fresh stakes me genesis) lived) s b) → T (not (has_fallback b (cell_at (after_all (fresh stakes me genesis) lived) s me)))
    → T (none (cell_at (after_all (fresh stakes me genesis) lived) s me).fallback3)

-- "A record that a node made from a fresh start is never refused by this."
abbrev pub OwnFallbacksWeigh : Type 0
OwnFallbacksWeigh =
    (stakes : List ℕ) (me genesis : ℕ) → start_verdict stakes me genesis ≡ Ok tt → (lived : List Arrival) (s b : ℕ) → T (not (none b))
    → T (has_fallback b (cell_at (after_all (fresh stakes me genesis) lived) s me)) → T (fallback_weights (after_all (fresh stakes me genesis) lived) s b)
