-- The number, what is missing, and the end of the line.
use Rattle.lines.specs.Answers.{missing_line}
use Rattle.lines.proofs.Paging.{and_then}
use Rattle.lines.proofs.Page.missing_line.Goals as goal

pub returns : goal.returns
unfolding missing_line
returns c = and_then c.decimal.ensures (and_then c.spaced.ensures c.byte.ensures)
