-- The loop has joined the tests of the places behind it.
use mathlib.Core.Path.{◌≡◌}
use Prim.Native.Nat.{ℕ, ◌+◌}
use lib.ListN.{length}
use Rattle.std.specs.Slice.Iter.{chunks_exact_rest, chunks_exact_size}
use Rattle.dormancy.specs.Dormant.{names_from}
use Rattle.dormancy.proofs.NameLaws.{Left}
use Rattle.dormancy.proofs.some_name.Given as goal

abbrev pub invariant-loop-place : goal.invariant-loop-place
invariant-loop-place g l =
    let k = length l.yielded in
    let w = g.row.WORDS in
    (chunks_exact_size l.place-iterator ≡ w) × ((m : ℕ) × (k + m ≡ 13) × Left l.rec l.from w (chunks_exact_rest l.place-iterator) k m) × (l.named ≡ names_from l.rec l.from w k)
