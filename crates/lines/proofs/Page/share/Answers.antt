-- The weight, and the percent between its signs.
use Rattle.lines.specs.Figures.{share_text}
use Rattle.lines.proofs.Paging.{and_then}
use Rattle.lines.proofs.Page.share.Goals as goal

pub returns : goal.returns
unfolding share_text
returns c = and_then c.spaced.ensures (and_then c.named.ensures c.text.ensures)
