-- No place behind the loop keeps the block with a parent that fits.
use mathlib.Core.Path.{◌≡◌}
use mathlib.Core.Bool.{false}
use Prim.Native.Nat.{◌-◌, ◌≤◌}
use Rattle.rulebook.specs.Tools.{some_to}
use Rattle.record.specs.Layout.{ledger_of}
use Rattle.standing.proofs.Laws.{lets_at}
use Rattle.standing.proofs.notar_stands.Given as goal

abbrev pub invariant-loop-n : goal.invariant-loop-n
invariant-loop-n l =
    (l.n ≤ 4) × (some_to l.n (lets_at (ledger_of l.rec) l.s.0 l.b) ≡ false)

abbrev pub decreases-loop-n : goal.decreases-loop-n
decreases-loop-n l =
    4 - l.n
