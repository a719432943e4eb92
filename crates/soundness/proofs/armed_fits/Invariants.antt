-- The loop has joined the tests of the windows behind it.
use mathlib.Core.Path.{◌≡◌}
use Prim.Native.Nat.{◌-◌, ◌≤◌}
use lib.ListN.{get_or}
use Rattle.rulebook.specs.WellFormed.{flag}
use Rattle.rulebook.specs.Tools.{all_to}
use Rattle.record.specs.Layout.{ledger_of}
use Rattle.soundness.proofs.armed_fits.Given as goal

abbrev pub invariant-loop-w : goal.invariant-loop-w
invariant-loop-w l =
    (l.w ≤ 4) × (l.ok ≡ all_to l.w (λ k. flag (get_or (ledger_of l.rec).armed k 0)))

abbrev pub decreases-loop-w : goal.decreases-loop-w
decreases-loop-w l =
    4 - l.w
