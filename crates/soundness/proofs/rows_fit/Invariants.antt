-- At the loop's head the rows behind it pass.
use mathlib.Core.Bool.{true}
use mathlib.Core.Path.{◌≡◌}
use Prim.Native.Nat.{◌-◌, ◌≤◌}
use Rattle.rulebook.specs.Tools.{all_to}
use Rattle.record.specs.Layout.{ledger_of}
use Rattle.soundness.specs.Sound.{row_passes}
use Rattle.soundness.proofs.rows_fit.Given as goal

abbrev pub invariant-loop-i : goal.invariant-loop-i
invariant-loop-i l =
    (l.i ≤ 17) × (true ≡ all_to l.i (row_passes (ledger_of l.rec)))

abbrev pub decreases-loop-i : goal.decreases-loop-i
decreases-loop-i l =
    17 - l.i
