-- None of the blocks behind the loop is a rival, and those that are left have at most the rest.
use mathlib.Core.Path.{◌≡◌}
use mathlib.Core.Bool.{false}
use Prim.Native.Nat.{◌-◌, ◌≤◌}
use Rattle.record.specs.Layout.{ledger_of}
use Rattle.rivals.specs.Rivals.{has_rival}
use Rattle.rivals.proofs.Rivals.{left}
use Rattle.rivals.proofs.has_rival.Given as goal

abbrev pub invariant-loop-n : goal.invariant-loop-n
invariant-loop-n l =
    (l.n ≤ l.nodes) × (has_rival (ledger_of l.rec) l.s.0 l.b l.v.0 l.n ≡ false) × (left (ledger_of l.rec) l.s.0 l.b l.n ≤ l.rest)

abbrev pub decreases-loop-n : goal.decreases-loop-n
decreases-loop-n l =
    l.nodes - l.n
