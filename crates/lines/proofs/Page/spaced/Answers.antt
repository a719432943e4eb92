-- The blank and the number.
use Rattle.lines.specs.Answers.{spaced}
use Rattle.lines.proofs.Paging.{and_then}
use Rattle.lines.proofs.Page.spaced.Goals as goal

pub returns : goal.returns
unfolding spaced
returns c = and_then c.byte.ensures c.decimal.ensures
