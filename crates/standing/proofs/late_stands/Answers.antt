-- The own notar vote, then the weights.
use mathlib.Core.Path.{◌∙◌, sym}
use Rattle.record.specs.Layout.{ledger_of}
use Rattle.standing.proofs.Laws.{late_none, late_weighs}
use Rattle.standing.proofs.late_stands.Goals as goal

pub returns-then-c-eq0 : goal.returns-then-c-eq0
returns-then-c-eq0 c =
    let a = c.args in
    sym (late_none (ledger_of a.rec.now) a.s.0 c.own_cell-c.result c.own_cell-c.ensures c.if-c-eq0.true)

pub returns : goal.returns
returns c =
    let a = c.args in
    c.skip_weights.ensures ∙ sym (late_weighs (ledger_of a.rec.now) a.s.0 c.own_cell-c.result c.own_cell-c.ensures c.if-c-eq0.false)
