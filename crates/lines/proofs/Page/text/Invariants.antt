-- The loop over the bytes: those before the present one are put.
use lib.ListN.{take}
use Rattle.lines.specs.Page.{Wrote}
use Rattle.lines.proofs.Page.text.Given as goal

abbrev pub invariant-loop-b : goal.invariant-loop-b
invariant-loop-b l = Wrote l.initial.self (take l.b-index l.text) l.self
