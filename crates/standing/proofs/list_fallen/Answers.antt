-- All lines, or 9.
use Rattle.std.proofs.Common.{rules}
use Rattle.inquest_lines.specs.Lent.{listed_in}
use Rattle.inquest_lines.proofs.Laws.{spelled}
use Rattle.standing.proofs.list_fallen.Goals as goal

pub returns : goal.returns
unfolding listed_in
returns c = c.list_lines.ensures _ _ (spelled.five _) (λ x m y e. search rules)
