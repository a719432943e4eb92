-- The blocks of a slot that can have the weights of rules A and D: six at most, found in one pass.
use Rattle.std.specs.Prelude.{◌≡◌, true, List, ℕ, ◌+◌, ◌*◌, ◌≤◌, ◌<◌, ◌^◌, length}
use Rattle.rulebook.specs.declared.Cell.{Cell}
use Rattle.rulebook.specs.declared.Who.{Who}
use Rattle.rulebook.specs.Tools.{part, sum_to}
use Rattle.rulebook.specs.Weights.{reaches}
use Rattle.rulebook.specs.Ledger.{Ledger}
use Rattle.rulebook.specs.Pool.{counts, weigh}
use Rattle.counters.specs.declared.Counter.{Counter}
use Rattle.counters.specs.Counting.{counters, word, name_at, weight_at, among, Counting}

-- Every block that k fifths of the total name in slot s, each node counted as `who` says, is among the blocks r.
pub record Heavy (who : ℕ → Who) (k : ℕ) (l : Ledger) (s : ℕ) (r : List ℕ) : Type 0 where
  pub long : length r ≡ counters
  pub has : (m : ℕ) → 1 ≤ m → reaches k l.total (weigh l s (who m)) ≡ true → among counters (word r) m ≡ true

-- The counters after a cell of weight w was counted for each block as `who` says, with t names at most.
abbrev pub Counted : (ℕ → Who) → ℕ → Cell → ℕ → List Counter → List Counter → Type 0
Counted who t c w cs ds =
    (f : ℕ → ℕ) (all : ℕ) → Counting counters f all (name_at cs) (weight_at cs)
    → Counting counters (λ m. f m + part (counts (who m) c) w) (all + t * w) (name_at ds) (weight_at ds)

-- The counters' sum with four times w more fits a word.
abbrev pub Roomy : List Counter → ℕ → Type 0
Roomy cs w = sum_to counters (weight_at cs) + 4 * w < 2 ^ 64

-- The names that the counters have, one each.
pub record Names (cs : List Counter) (ns : List ℕ) : Type 0 where
  pub long : length ns ≡ counters
  pub each : (i : ℕ) → i < counters → word ns i ≡ name_at cs i
