-- No place behind the loop keeps the block with its parent backed.
use mathlib.Core.Path.{◌≡◌}
use mathlib.Core.Bool.{false}
use Prim.Native.Nat.{◌-◌, ◌≤◌}
use Rattle.rulebook.specs.Tools.{some_to}
use Rattle.record.specs.Layout.{ledger_of}
use Rattle.candidates.proofs.WaitLaws.{backed_at}
use Rattle.candidates.proofs.is_grounded.Given as goal

abbrev pub invariant-loop-n : goal.invariant-loop-n
invariant-loop-n l =
    (l.n ≤ 4) × (some_to l.n (backed_at (ledger_of l.rec) l.s.0 l.b) ≡ false)

abbrev pub decreases-loop-n : goal.decreases-loop-n
decreases-loop-n l =
    4 - l.n
