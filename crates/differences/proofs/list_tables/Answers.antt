-- Room for one line, or 9 with 1.
use mathlib.Core.Path.{refl}
use Rattle.difference_lines.specs.Lines.{tables_line}
use mathlib.Core.List.{[], ◌∷◌}
use Rattle.differences.proofs.Rows.{laid_over}
use Rattle.differences.proofs.LineLaws.{spelled}
use Rattle.differences.proofs.ListLaws.{list_cramped, list_whole}
use Rattle.differences.proofs.list_tables.Goals as goal

pub returns-then-list-lt-LINE_WORDS : goal.returns-then-list-lt-LINE_WORDS
returns-then-list-lt-LINE_WORDS c = list_cramped _ (tables_line ∷ []) 1 refl c.if-list-lt-LINE_WORDS.true

pub returns : goal.returns
returns c =
    list_whole _ (tables_line ∷ []) c.if-list-lt-LINE_WORDS.false c.put_line.ensures.many (laid_over spelled c.if-list-lt-LINE_WORDS.false c.put_line.ensures)
