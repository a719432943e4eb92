-- All lines, or 9.
use Rattle.std.proofs.Common.{rules}
use Rattle.same_parents.specs.Parents.{twice_in}
use Rattle.same_parents.proofs.Laws.{spelled}
use Rattle.same_parents.proofs.list_twice.Goals as goal

pub returns : goal.returns
unfolding twice_in
returns c = c.list_lines.ensures _ _ (spelled.five _) (λ x m y e. search rules)
