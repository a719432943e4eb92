-- The counters passed are lower by e, and the others are as they were.
use Rattle.std.proofs.Common.{◌≡◌, ℕ, ◌+◌, ◌<◌, ◌≤◌}
use Rattle.counters.specs.Counting.{name_at, weight_at}
use Rattle.counters.proofs.lower_all.Given as goal

abbrev pub invariant-loop-c : goal.invariant-loop-c
invariant-loop-c l =
    ((j : ℕ) → name_at l.counters j ≡ name_at l.initial.counters j)
    × ((j : ℕ) → j < l.c-index → weight_at l.counters j + l.e ≡ weight_at l.initial.counters j)
    × ((j : ℕ) → l.c-index ≤ j → weight_at l.counters j ≡ weight_at l.initial.counters j)
