-- The text and the number.
use Rattle.lines.proofs.Paging.{and_then}
use Rattle.lines.proofs.Page.named.Goals as goal

pub returns : goal.returns
returns c = and_then c.text.ensures c.decimal.ensures
