-- The loop over digits: what is read so far and the digits ahead make the whole number.
use mathlib.Core.Path.{◌≡◌}
use lib.ListN.{drop}
use Rattle.script.specs.Digits.{decimal_from, decimal_of}
use Rattle.script.proofs.read_decimal.Given as goal

abbrev pub invariant-loop-b : goal.invariant-loop-b
invariant-loop-b l = decimal_of l.word ≡ decimal_from l.v (drop l.b-index l.word)
