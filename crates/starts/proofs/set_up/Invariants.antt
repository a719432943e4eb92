-- Cleared, given its head, and a stake at a time: the loop's words hold the fresh ledger with the stakes behind it.
use mathlib.Core.Path.{◌≡◌}
use Prim.Native.Nat.{◌-◌, ◌≤◌}
use lib.ListN.{length}
use Rattle.rulebook.specs.Weights.{places_for}
use Rattle.record.specs.Layout.{record_words, ledger_of}
use Rattle.starts.specs.Starting.{fresh_to}
use Rattle.starts.proofs.set_up.Given as goal

abbrev pub invariant-loop-n : goal.invariant-loop-n
invariant-loop-n l =
    (l.n ≤ length l.stakes) × (l.n-end ≡ length l.stakes) × (length l.rec ≡ record_words (places_for (length l.stakes))) × (ledger_of l.rec ≡ fresh_to l.stakes l.n (ledger_of l.initial.rec).total (ledger_of l.initial.rec).own l.genesis)

abbrev pub decreases-loop-n : goal.decreases-loop-n
decreases-loop-n l =
    length l.stakes - l.n
