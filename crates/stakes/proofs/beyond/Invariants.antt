-- Word by word, against what is left of the table. Assumes nothing.
use Rattle.std.proofs.Common.{◌≡◌, ◌-◌, ◌*◌, ◌^◌, leb, get_or}
use Rattle.rulebook.specs.Tools.{some_to}
use Rattle.stakes.proofs.beyond.Given as goal

abbrev pub invariant-loop-word : goal.invariant-loop-word
invariant-loop-word l =
    (l.left ≡ l.count - 64 * l.word-index) × (l.past ≡ some_to l.word-index (λ j. leb (2 ^ (l.count - 64 * j)) (get_or l.mask j 0)))
