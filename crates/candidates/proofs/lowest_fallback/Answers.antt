-- D applies to none but the six.
use mathlib.Core.Path.{◌∙◌}
use Rattle.record.specs.Layout.{ledger_of}
use Rattle.candidates.proofs.HeavyLaws.{six_lowest}
use Rattle.candidates.proofs.lowest_fallback.Goals as goal

pub returns : goal.returns
returns c =
    c.lowest_of.ensures ∙ six_lowest (ledger_of c.args.rec.now) c.args.s.0 c.requires.weighing.table _ c.heavy_notar-blocks.ensures
