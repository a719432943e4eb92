-- The writing loop: the stores that are left, onto the bytes so far, are the stores of the whole number.
use mathlib.Core.Path.{◌≡◌}
use Prim.Native.Nat.{ℕ, ◌+◌, ◌*◌, ◌^◌, ◌<◌}
use lib.ListN.{length}
use lib.Seq.{sets}
use Rattle.rulebook.specs.Packets.{groups_of, number_bytes}
use Rattle.numbers.proofs.write_number.Given as goal

abbrev pub invariant-loop-rest : goal.invariant-loop-rest
invariant-loop-rest l =
    (length l.bytes ≡ length l.initial.bytes)
    × ((f : ℕ) × (l.rest < 2 * 128 ^ f) × (l.i + length (groups_of f l.rest) ≡ l.at + length (number_bytes l.v)) × (sets l.initial.bytes l.at (number_bytes l.v) ≡ sets l.bytes l.i (groups_of f l.rest)))

abbrev pub decreases-loop-rest : goal.decreases-loop-rest
decreases-loop-rest l =
    l.rest
