-- The five numbers with what stands between them.
use Rattle.lines.proofs.Paging.{and_then}
use Rattle.comparing.specs.Compared.{line_text}
use Rattle.comparing.proofs.put_line.Goals as goal

pub returns : goal.returns
unfolding line_text
returns c =
    and_then c.named.ensures (and_then c.named-2.ensures (and_then c.named-3.ensures (and_then c.named-4.ensures c.named-5.ensures)))
