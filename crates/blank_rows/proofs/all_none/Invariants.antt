-- At the loop's head both sums are 0 exactly where the last words and those of the turns behind it are.
use mathlib.Core.Path.{◌≡◌}
use mathlib.Core.Bool.{◌&&◌}
use Prim.Native.Nat.{◌-◌, ◌≤◌}
use Rattle.rulebook.specs.Ledger.{none}
use Rattle.blank_rows.proofs.Words.{seen_to}
use Rattle.blank_rows.proofs.all_none.Given as goal

abbrev pub invariant-loop-k : goal.invariant-loop-k
invariant-loop-k l =
    (l.k ≤ l.turns) × ((none l.even && none l.odd) ≡ seen_to l.words l.k)

abbrev pub decreases-loop-k : goal.decreases-loop-k
decreases-loop-k l =
    l.turns - l.k
