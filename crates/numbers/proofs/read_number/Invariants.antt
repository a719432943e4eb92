-- The reading loop: what is left to read, above the bits read so far, is the whole number.
use mathlib.Core.Path.{◌≡◌}
use Prim.Native.Nat.{◌-◌, ◌%◌, ◌^◌, ◌≤◌, ◌<◌}
use lib.ListN.{length, drop}
use Rattle.rulebook.specs.Packets.{number_from, number_at}
use Rattle.numbers.proofs.Turns.{onto}
use Rattle.numbers.proofs.read_number.Given as goal

abbrev pub invariant-loop-i : goal.invariant-loop-i
invariant-loop-i l =
    (l.i-end ≡ length l.bytes) × (l.k ≤ 63) × (l.k % 7 ≡ 0) × (l.v < 2 ^ l.k) × (number_at l.bytes l.at ≡ onto l.v l.k l.i (number_from l.k (drop l.i l.bytes)))
