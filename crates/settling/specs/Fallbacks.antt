-- The own notar-fallback votes of a slot, as records tell them.
use Rattle.std.specs.Prelude.{◌≡◌, List, [], ◌∷◌, ℕ, ◌+◌, eqb}
use Rattle.rulebook.specs.Tools.{part}
use Rattle.rulebook.specs.Ledger.{own_cell}
use Rattle.rulebook.specs.Rules.{Record, State}
use Rattle.settling.specs.Spare.{one, fallbacks_left}
use Rattle.settling.specs.Facts.{Sound}

-- The records of kind 2, a notar-fallback vote that was cast, for slot s.
unfoldable pub fallbacks_told : ℕ → List Record → ℕ
fallbacks_told s [] = 0
fallbacks_told s (r ∷ rs) = part (eqb r.slot s) (one (eqb r.kind 2)) + fallbacks_told s rs

-- Each fallback told for slot s has taken one of the places that were left.
pub record Taken (s left : ℕ) (o : State) : Type 0 where
  pub sound : Sound o.ledger
  pub balance : fallbacks_told s o.records + fallbacks_left (own_cell o.ledger s) ≡ left
