-- A place without a block leans on nothing; any other on the weights.
use mathlib.Core.Path.{◌∙◌}
use Rattle.record.specs.Layout.{ledger_of}
use Rattle.soundness.proofs.Laws.{backs_none, backs_some}
use Rattle.soundness.proofs.backs.Goals as goal

pub returns-then-b-eq0 : goal.returns-then-b-eq0
returns-then-b-eq0 c = let a = c.args in backs_none (ledger_of a.rec.now) a.s.0 a.b c.if-b-eq0.true

pub fallback_weights-requires : goal.fallback_weights-requires
fallback_weights-requires c = c.requires

pub returns : goal.returns
returns c =
    let a = c.args in
    c.fallback_weights.ensures ∙ backs_some (ledger_of a.rec.now) a.s.0 a.b c.if-b-eq0.false
