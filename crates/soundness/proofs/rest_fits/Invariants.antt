-- The loop has joined the tests of the places behind it.
use mathlib.Core.Bool.{◌||◌}
use mathlib.Core.Path.{◌≡◌}
use Prim.Native.Nat.{◌-◌, ◌≤◌}
use lib.Dec.{ltb}
use Rattle.rulebook.specs.Ledger.{none, places}
use Rattle.rulebook.specs.Weights.{stake_in}
use Rattle.rulebook.specs.Tools.{all_to}
use Rattle.record.specs.Layout.{ledger_of}
use Rattle.soundness.proofs.rest_fits.Given as goal

abbrev pub invariant-loop-n : goal.invariant-loop-n
invariant-loop-n l =
    (l.n ≤ l.places) × (l.ok ≡ all_to l.n (λ k. ltb k l.m || none (stake_in (ledger_of l.rec).stakes k)))

abbrev pub decreases-loop-n : goal.decreases-loop-n
decreases-loop-n l =
    l.places - l.n
