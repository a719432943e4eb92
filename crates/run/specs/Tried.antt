-- What trying the rules of a slot asks, where those of every slot below were tried before.
use Rattle.std.specs.Prelude.{◌≡◌, List, ℕ, ◌≤◌, ◌<◌}
use Rattle.rulebook.specs.Rules.{rule_g}
use Rattle.voter.specs.Outbox.{state_in}
use Rattle.fallbacks.specs.UnderWay.{UnderWayAt}

-- A call is under way at slot s, and the walk from no slot below has anything to tell.
pub record TriedBelow (ws out : List ℕ) (at s : ℕ) : Type 0 where
  pub under : UnderWayAt ws out at s
  pub walked : (q : ℕ) → 1 ≤ q → q < s → rule_g (state_in ws out at) q ≡ state_in ws out at
