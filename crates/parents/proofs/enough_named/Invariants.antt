-- What is left of the total: those that name some block among the nodes looked at, and all behind them.
use Prim.Native.Nat.{◌-◌, ◌≤◌}
use Rattle.record.specs.Layout.{ledger_of}
use Rattle.parents.specs.Naming.{Left}
use Rattle.parents.proofs.enough_named.Given as goal

abbrev pub invariant-loop-n : goal.invariant-loop-n
invariant-loop-n l =
    (l.needed.0 ≤ l.left.0) × Left (ledger_of l.rec) l.p.0 l.n l.left.0

abbrev pub decreases-loop-n : goal.decreases-loop-n
decreases-loop-n l =
    l.nodes - l.n
