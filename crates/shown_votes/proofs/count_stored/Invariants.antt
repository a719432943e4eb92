-- The three sums over the nodes passed.
use mathlib.Core.Path.{◌≡◌}
use Prim.Native.Nat.{◌-◌, ◌≤◌}
use Rattle.record.specs.Layout.{ledger_of}
use Rattle.shown_votes.proofs.Laws.{cast_to, voters_to, weight_to}
use Rattle.shown_votes.proofs.count_stored.Given as goal

abbrev pub invariant-loop-n : goal.invariant-loop-n
invariant-loop-n l =
    (l.n ≤ l.all) × (l.all ≡ (ledger_of l.rec).count) × (l.votes ≡ cast_to (ledger_of l.rec) l.s.0 l.n) × (l.nodes ≡ voters_to (ledger_of l.rec) l.s.0 l.n) × (l.weight ≡ weight_to (ledger_of l.rec) l.s.0 l.n)

abbrev pub decreases-loop-n : goal.decreases-loop-n
decreases-loop-n l =
    l.all - l.n
