-- The four numbers with what stands between them.
use Rattle.lines.specs.Figures.{vote_text}
use Rattle.lines.proofs.Paging.{and_then}
use Rattle.lines.proofs.Page.vote.Goals as goal

pub returns : goal.returns
unfolding vote_text
returns c =
    and_then c.decimal.ensures (and_then c.spaced.ensures (and_then c.spaced-2.ensures c.spaced-3.ensures))
