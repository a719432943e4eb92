-- The loop over the words: those before the present one are copied.
use mathlib.Core.Path.{◌≡◌}
use Prim.Native.Nat.{◌-◌, ◌≤◌}
use lib.ListN.{length}
use Rattle.slices.proofs.Laws.{copied}
use Rattle.slices.proofs.copy_words.Given as goal

abbrev pub invariant-loop-i : goal.invariant-loop-i
invariant-loop-i l =
    (l.to ≡ copied l.initial.to l.from l.i) × (l.i ≤ length l.from) × (l.i-end ≡ length l.from) × (length l.to ≡ length l.initial.to)

abbrev pub decreases-loop-i : goal.decreases-loop-i
decreases-loop-i l =
    l.i-end - l.i
