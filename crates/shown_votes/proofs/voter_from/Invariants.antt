-- From the present node on the first is the same as from the beginning on.
use mathlib.Core.Path.{◌≡◌}
use Prim.Native.Nat.{◌-◌, ◌≤◌}
use Rattle.shown.specs.Shown.{ledger_in, voted}
use Rattle.shown_votes.specs.Votes.{first_from}
use Rattle.shown_votes.proofs.voter_from.Given as goal

abbrev pub invariant-loop-n : goal.invariant-loop-n
invariant-loop-n l =
    (l.nodes ≡ (ledger_in l.rec).count) × (first_from (l.nodes - l.n) l.n (voted (ledger_in l.rec) l.s.0) ≡ first_from (l.nodes - l.from.0) l.from.0 (voted (ledger_in l.rec) l.s.0))
    × (l.nodes ≤ l.from.0 → l.n ≡ l.from.0)
