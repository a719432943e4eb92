-- What is behind the loop is copied.
use mathlib.Core.Path.{◌≡◌}
use Prim.Native.Nat.{◌-◌, ◌≤◌}
use lib.ListN.{length}
use lib.Seq.{paste}
use Rattle.pieces.proofs.copy_first.Given as goal

abbrev pub invariant-loop-i : goal.invariant-loop-i
invariant-loop-i g l =
    (length l.to ≡ length l.initial.to) × (l.to ≡ paste l.initial.to l.at l.from l.i)
