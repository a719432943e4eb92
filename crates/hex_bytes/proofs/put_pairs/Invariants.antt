-- The loop over pairs: those before the present one stand in the buffer.
use mathlib.Core.Path.{◌≡◌}
use lib.ListN.{length}
use Rattle.hex_bytes.specs.Bytes.{put_pairs}
use Rattle.hex_bytes.proofs.put_pairs.Given as goal

abbrev pub invariant-loop-i : goal.invariant-loop-i
invariant-loop-i l = (l.out ≡ put_pairs l.word l.i l.initial.out) × (length l.out ≡ length l.initial.out)
