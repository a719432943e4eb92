-- The three numbers with what stands between them.
use Rattle.lines.specs.Text.{record_text}
use Rattle.lines.proofs.Paging.{and_then}
use Rattle.lines.proofs.Page.record.Goals as goal

pub returns : goal.returns
unfolding record_text
returns c = and_then c.named.ensures (and_then c.named-2.ensures c.named-3.ensures)
