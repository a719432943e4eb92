use mathlib.Core.Path.{◌∙◌}
use Rattle.record.proofs.Reading.{clash_read}
use Rattle.record.proofs.clash_word.Goals as goal

pub returns : goal.returns
returns c = c.row_word.ensures ∙ clash_read c.args.rec.now c.args.s.0 c.requires
