-- The five words of the line.
use Rattle.std.proofs.Common.{rules}
use Rattle.differences.proofs.Rows.{row_laid}
use Rattle.kept_lines.specs.Lent.{spell_all}
use Rattle.kept_lines.proofs.put_told.Goals as goal

pub returns : goal.returns
unfolding spell_all
returns c = row_laid _ (search rules) c.put_row.ensures
