-- The loop over the bytes: the pairs of those before the present one are put.
use Rattle.lines.specs.Text.{hex_pairs}
use Rattle.lines.specs.Page.{Wrote}
use Rattle.lines.proofs.Page.hex.Given as goal

abbrev pub invariant-loop-b : goal.invariant-loop-b
invariant-loop-b l = Wrote l.initial.self (hex_pairs l.bytes l.b-index) l.self
