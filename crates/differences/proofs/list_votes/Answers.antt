-- Counted, and the whole list or 9.
use Rattle.std.proofs.Common.{rules}
use Rattle.differences.proofs.LineLaws.{spelled}
use Rattle.differences.proofs.ListLaws.{list_counted}
use Rattle.differences.proofs.list_votes.Goals as goal

pub returns : goal.returns
returns c =
    list_counted _ _ (c.list_all.ensures _ _ (spelled.five _) (λ x m y e. search rules)) (λ m e. search rules) (λ m e. search rules)
