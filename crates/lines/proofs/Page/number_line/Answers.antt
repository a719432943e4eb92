-- The number and the end of the line.
use Rattle.lines.specs.Answers.{number_line}
use Rattle.lines.proofs.Paging.{and_then}
use Rattle.lines.proofs.Page.number_line.Goals as goal

pub returns : goal.returns
unfolding number_line
returns c = and_then c.decimal.ensures c.byte.ensures
