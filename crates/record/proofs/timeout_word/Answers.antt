use mathlib.Core.Path.{◌∙◌}
use Rattle.record.proofs.Reading.{timed_out_read}
use Rattle.record.proofs.timeout_word.Goals as goal

pub returns : goal.returns
returns c = c.row_word.ensures ∙ timed_out_read c.args.rec.now c.args.s.0 c.requires
