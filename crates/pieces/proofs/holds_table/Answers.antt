-- The count, the stakes as a table, and what stands past them.
use mathlib.Core.Path.{◌∙◌, ap}
use Rattle.std.specs.Prelude.{is_some}
use Rattle.pieces.proofs.Runs.{all_blank}
use Rattle.pieces.proofs.Tests.{table_many, table_few, made_test}
use Rattle.pieces.proofs.holds_table.Goals as goal

pub returns-then-words-gt2048 : goal.returns-then-words-gt2048
returns-then-words-gt2048 c = table_many _ c.if-words-gt2048.true

pub returns : goal.returns
returns c =
    table_few c.args.words.now _ _ c.if-words-gt2048.false (c.is_some.ensures ∙ ap is_some c.make_table.ensures ∙ made_test _) (c.all_are.ensures ∙ all_blank _)
