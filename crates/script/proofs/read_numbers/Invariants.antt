-- The loop over words: what is read so far and the words ahead make the whole. Each turn passes at least one byte, so there are no
-- more numbers than bytes.
use lib.ListN.{length}
use mathlib.Core.Path.{◌≡◌}
use Prim.Native.Nat.{◌-◌, ◌≤◌}
use Rattle.script.specs.Numbers.{numbers_from, numbers_of}
use Rattle.script.proofs.Reading.{ahead}
use Rattle.script.proofs.read_numbers.Given as goal

abbrev pub invariant-loop-place : goal.invariant-loop-place
invariant-loop-place l =
    (numbers_of l.line l.at l.initial.out ≡ numbers_from (ahead l.line l.count) l.line l.place l.count l.out) × (l.count ≤ l.place) × (length l.out ≡ length l.initial.out)

abbrev pub decreases-loop-place : goal.decreases-loop-place
decreases-loop-place l =
    length l.line - l.place
