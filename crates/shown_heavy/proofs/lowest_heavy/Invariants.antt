-- The best so far is the lowest of the nodes passed.
use mathlib.Core.Path.{◌≡◌}
use Prim.Native.Nat.{◌-◌, ◌≤◌}
use Rattle.rulebook.specs.Tools.{lowest}
use Rattle.rulebook.specs.Pool.{names_to}
use Rattle.record.specs.Layout.{ledger_of}
use Rattle.shown_heavy.specs.Heavy.{heavy_past}
use Rattle.shown_heavy.proofs.lowest_heavy.Given as goal

abbrev pub invariant-loop-n : goal.invariant-loop-n
invariant-loop-n l =
    (l.n ≤ l.nodes) × (l.best ≡ lowest (heavy_past (ledger_of l.rec) l.s.0 l.after) (names_to (ledger_of l.rec) l.s.0 l.n))

abbrev pub decreases-loop-n : goal.decreases-loop-n
decreases-loop-n l =
    l.nodes - l.n
