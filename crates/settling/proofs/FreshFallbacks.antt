-- A node that starts casts at most three notar-fallback votes in a slot in its life.
use Rattle.std.specs.Prelude.{Ok}
use mathlib.Core.Path.{◌≡◌}
use mathlib.Core.List.{List}
use Prim.Native.Nat.{ℕ, ◌≤◌}
use Rattle.rulebook.specs.Ledger.{fresh}
use Rattle.rulebook.specs.Inputs.{start_verdict}
use Rattle.rulebook.specs.Taking.{Arrival}
use Rattle.settling.specs.Steps.{life}
use Rattle.settling.specs.Fallbacks.{fallbacks_told}
use Rattle.settling.proofs.Fallbacks.{life_three}
use Rattle.settling.proofs.Start.{fresh_sound}

-- "Show that it cannot from a fresh start, whatever the others do, with no limit on faulty stake."
pub start_three : (stakes : List ℕ) (own genesis : ℕ) → start_verdict stakes own genesis ≡ Ok tt → (s : ℕ) (cs : List Arrival)
    → fallbacks_told s (life (fresh stakes own genesis) cs) ≤ 3
start_three stakes own genesis e s cs = life_three (fresh stakes own genesis) (fresh_sound stakes own genesis e) s cs
