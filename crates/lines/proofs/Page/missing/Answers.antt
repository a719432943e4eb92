-- Nothing, or the figure, the words and the name.
use Rattle.lines.proofs.Paging.{and_then}
use Rattle.lines.proofs.Composed.{nothing_missing_lem, some_missing}
use Rattle.lines.proofs.Page.missing.Goals as goal

pub returns-then-missing-eq0 : goal.returns-then-missing-eq0
returns-then-missing-eq0 c = nothing_missing_lem _ _ c.if-missing-eq0.true

pub returns : goal.returns
returns c =
    some_missing _ _ c.if-missing-eq0.false (and_then c.named.ensures (and_then c.text.ensures c.text-2.ensures))
