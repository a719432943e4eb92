-- Whether a node passed has a vote.
use mathlib.Core.Path.{◌≡◌}
use Prim.Native.Nat.{◌-◌, ◌≤◌}
use Rattle.shown.specs.Shown.{ledger_in}
use Rattle.shown.proofs.Laws.{votes_to}
use Rattle.shown.proofs.has_votes.Given as goal

abbrev pub invariant-loop-n : goal.invariant-loop-n
invariant-loop-n l =
    (l.n ≤ l.nodes) × (l.nodes ≡ (ledger_in l.rec).count) × (l.some ≡ votes_to (ledger_in l.rec) l.s.0 l.n)

abbrev pub decreases-loop-n : goal.decreases-loop-n
decreases-loop-n l =
    l.nodes - l.n
