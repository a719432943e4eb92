-- The counter found so far has no more than any that was passed.
use Rattle.std.proofs.Common.{ℕ, ◌<◌, ◌≤◌}
use Rattle.counters.specs.Counting.{counters, weight_at}
use Rattle.counters.proofs.least_of.Given as goal

abbrev pub invariant-loop-i : goal.invariant-loop-i
invariant-loop-i l =
    (l.p < counters) × ((j : ℕ) → j < l.i → weight_at l.counters l.p ≤ weight_at l.counters j)
