-- The loop over the numbers: those before the present one are put.
use Rattle.lines.specs.Answers.{votes_to}
use Rattle.lines.specs.Page.{Wrote}
use Rattle.lines.proofs.Page.numbers.Given as goal

abbrev pub invariant-loop-n : goal.invariant-loop-n
invariant-loop-n l = Wrote l.initial.self (votes_to l.numbers l.n-index) l.self
