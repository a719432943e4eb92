-- The stake table that a node's record holds, as what inner functions ask of their callers.
use Rattle.std.specs.Prelude.{◌≡◌, ◌≤◌}
use Rattle.rulebook.specs.Weights.{most_stake, total_to}
use Rattle.rulebook.specs.Ledger.{Ledger, places}

-- Every node has a place, and the total is what the nodes' stakes sum up to: at least 1, at most 2^48.
-- Only the ledger's head matters.
pub record Tabled (l : Ledger) : Type 0 where
  pub few : l.count ≤ places l
  pub sum : total_to l.stakes l.count ≡ l.total
  pub some : 1 ≤ l.total
  pub light : l.total ≤ most_stake
