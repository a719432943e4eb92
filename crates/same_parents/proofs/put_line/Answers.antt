-- The five words of the line.
use Rattle.std.proofs.Common.{rules}
use Rattle.differences.proofs.Rows.{row_laid}
use Rattle.same_parents.specs.Parents.{spell_lines}
use Rattle.same_parents.proofs.put_line.Goals as goal

pub returns : goal.returns
unfolding spell_lines
returns c = row_laid _ (search rules) c.put_row.ensures
