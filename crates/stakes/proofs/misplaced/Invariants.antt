-- Word by word, against what is left of the table and against each other. Assumes nothing.
use Rattle.std.proofs.Common.{◌≡◌, ℕ, ◌-◌, ◌*◌, ◌^◌, Bool, ◌&&◌, ◌||◌, leb, List, length, get_or}
use Rattle.rulebook.specs.Tools.{some_to}
use Rattle.rulebook.specs.Packets.{bit, joined}
use Rattle.stakes.proofs.misplaced.Given as goal

-- The first i words of a mask name a node beyond the table.
abbrev pub past_to : List ℕ → ℕ → ℕ → Bool
past_to mask count i = some_to i (λ j. leb (2 ^ (count - 64 * j)) (get_or mask j 0))

-- Their nodes are looked for in both.
abbrev pub both_to : List ℕ → List ℕ → ℕ → Bool
both_to a b i = some_to (64 * i) (λ n. bit (joined a) n && bit (joined b) n)

abbrev pub invariant-loop-x : goal.invariant-loop-x
invariant-loop-x l =
    (l.left ≡ l.count - 64 * length l.yielded)
    × (l.bad ≡ ((past_to l.a l.count (length l.yielded) || past_to l.b l.count (length l.yielded)) || both_to l.a l.b (length l.yielded)))
