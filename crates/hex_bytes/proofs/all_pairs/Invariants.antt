-- The loop over pairs: all before the present one are digits.
use mathlib.Core.Path.{◌≡◌}
use mathlib.Core.Bool.{true}
use Rattle.hex_bytes.specs.Bytes.{pairs_good}
use Rattle.hex_bytes.proofs.all_pairs.Given as goal

abbrev pub invariant-loop-pair : goal.invariant-loop-pair
invariant-loop-pair l = pairs_good l.word l.pair-index ≡ true
