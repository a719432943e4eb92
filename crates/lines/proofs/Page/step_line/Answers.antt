-- A refusal is its number; else the count and the records follow.
use Rattle.lines.specs.Answers.{step_line}
use Rattle.lines.proofs.Paging.{and_then}
use Rattle.lines.proofs.Composed.{refused, answered}
use Rattle.lines.proofs.Page.step_line.Goals as goal

pub returns-then-n-ne0 : goal.returns-then-n-ne0
unfolding step_line
returns-then-n-ne0 c = refused _ _ _ c.if-n-ne0.true c.number_line.ensures

pub returns : goal.returns
unfolding step_line
returns c =
    answered _ _ _ c.if-n-ne0.false c.byte.ensures (and_then c.spaced.ensures c.records.ensures) c.byte-2.ensures
