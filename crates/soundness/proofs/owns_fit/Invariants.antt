-- At the loop's head the own fallbacks of the slots behind it lean on enough.
use mathlib.Core.Bool.{true}
use mathlib.Core.Path.{◌≡◌}
use Prim.Native.Nat.{suc, ◌-◌, ◌≤◌}
use Rattle.rulebook.specs.Tools.{all_to}
use Rattle.record.specs.Layout.{ledger_of}
use Rattle.rulebook.specs.WellFormed.{own_fits}
use Rattle.soundness.proofs.owns_fit.Given as goal

abbrev pub invariant-loop-i : goal.invariant-loop-i
invariant-loop-i l =
    (l.i ≤ 16) × (true ≡ all_to l.i (λ k. own_fits (ledger_of l.rec) (suc k)))

abbrev pub decreases-loop-i : goal.decreases-loop-i
decreases-loop-i l =
    16 - l.i
