use mathlib.Core.Path.{◌∙◌}
use Rattle.record.proofs.Reading.{final_read}
use Rattle.record.proofs.final_block.Goals as goal

pub returns : goal.returns
returns c = c.row_word.ensures ∙ final_read c.args.rec.now c.args.s.0 c.requires
