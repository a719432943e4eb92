-- The number of lines that have no room is 9's.
use Rattle.std.proofs.Common.{rules}
use Rattle.inquest_lines.proofs.Laws.{told_counted}
use Rattle.inquest_lines.proofs.list_lines.Goals as goal

pub returns : goal.returns
returns g c n ws five h = told_counted n ws (c.list_all.ensures n ws five h) (λ m e. search rules) (λ m e. search rules)
