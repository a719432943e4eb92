-- The best so far is the lowest of the nodes passed.
use mathlib.Core.Path.{◌≡◌}
use Prim.Native.Nat.{◌-◌, ◌≤◌}
use lib.Dec.{ltb}
use Rattle.rulebook.specs.Pool.{names_to}
use Rattle.rulebook.specs.Tools.{lowest}
use Rattle.shown.specs.Shown.{ledger_in}
use Rattle.shown_blocks.proofs.block_after.Given as goal

abbrev pub invariant-loop-n : goal.invariant-loop-n
invariant-loop-n l =
    (l.n ≤ l.nodes) × (l.nodes ≡ (ledger_in l.rec).count) × (l.best ≡ lowest (ltb l.after) (names_to (ledger_in l.rec) l.s.0 l.n))

abbrev pub decreases-loop-n : goal.decreases-loop-n
decreases-loop-n l =
    l.nodes - l.n
