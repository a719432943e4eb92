-- All lines, or 9.
use Rattle.std.proofs.Common.{rules}
use Rattle.kept_lines.specs.Lent.{listed_in}
use Rattle.kept_lines.proofs.Laws.{spelled}
use Rattle.kept_lines.proofs.list_places.Goals as goal

pub returns : goal.returns
unfolding listed_in
returns c = c.list_lines.ensures _ _ ((spelled _).five _) (λ x m y e. search rules)
