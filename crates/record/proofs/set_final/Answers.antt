use mathlib.Core.Path.{◌∙◌, ap}
use Rattle.record.specs.Layout.{ledger_of}
use Rattle.record.proofs.Replacing.{final_put}
use Rattle.record.proofs.set_final.Goals as goal

pub returns : goal.returns
returns c = ap ledger_of c.set_row_word.ensures ∙ final_put c.before.args.rec.now c.before.args.s.0 c.before.requires c.before.args.b
