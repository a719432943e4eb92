-- The places of a record, by the number of its nodes. Nothing else is used of `places_for`.
use mathlib.Core.Path.{◌≡◌}
use Prim.Native.Nat.{ℕ, ◌≤◌}
use native.Mathlib.Omega.{arith}
use native.Mathlib.Nat.{min-eq_left, min-eq_right, min-le_right}
use Rattle.rulebook.specs.Weights.{most_nodes, places_for}

module _ (count : ℕ) where
  -- Up to the limit there are as many places as nodes, above it as many as the limit.
  pub placed_each : count ≤ most_nodes → places_for count ≡ count
  unfolding places_for
  placed_each h = min-eq_left h

  pub placed_most : most_nodes ≤ count → places_for count ≡ most_nodes
  unfolding places_for
  placed_most h = min-eq_right h

  -- Every node of a table has a place.
  pub nodes_placed : count ≤ most_nodes → count ≤ places_for count
  nodes_placed h = omega (arith, placed_each h)

  pub places_few : places_for count ≤ most_nodes
  unfolding places_for
  places_few = min-le_right count most_nodes
