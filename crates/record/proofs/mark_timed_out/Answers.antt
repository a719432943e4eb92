use mathlib.Core.Path.{◌∙◌, ap}
use Rattle.record.specs.Layout.{ledger_of}
use Rattle.record.proofs.Replacing.{timed_out_put}
use Rattle.record.proofs.mark_timed_out.Goals as goal

pub returns : goal.returns
returns c = ap ledger_of c.set_row_word.ensures ∙ timed_out_put c.before.args.rec.now c.before.args.s.0 c.before.requires
