-- The own initial vote, then the weights, then the block and its parent.
use mathlib.Core.Path.{◌∙◌, sym}
use Rattle.record.specs.Layout.{ledger_of}
use Rattle.standing.proofs.Laws.{fallback_same, fallback_light, fallback_heavy}
use Rattle.standing.proofs.fallback_stands.Goals as goal

pub returns-then-not-is_other : goal.returns-then-not-is_other
returns-then-not-is_other c =
    let a = c.args in
    sym (fallback_same (ledger_of a.rec.now) a.s.0 c.own_cell-c.result c.own_cell-c.ensures a.b (sym c.is_other.ensures ∙ c.if-not-is_other.true))

pub returns-then-not-fallback_weights : goal.returns-then-not-fallback_weights
returns-then-not-fallback_weights c =
    let a = c.args in
    sym (fallback_light (ledger_of a.rec.now) a.s.0 c.own_cell-c.result c.own_cell-c.ensures a.b
    (sym c.is_other.ensures ∙ c.if-not-is_other.false)
    (sym c.fallback_weights.ensures ∙ c.if-not-fallback_weights.true))

pub returns : goal.returns
returns c =
    let a = c.args in
    c.is_grounded.ensures
    ∙ sym (fallback_heavy (ledger_of a.rec.now) a.s.0 c.own_cell-c.result c.own_cell-c.ensures a.b
    (sym c.is_other.ensures ∙ c.if-not-is_other.false)
    (sym c.fallback_weights.ensures ∙ c.if-not-fallback_weights.false))
