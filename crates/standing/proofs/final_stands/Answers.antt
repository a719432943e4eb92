-- The own votes, then kind 2.
use mathlib.Core.Path.{◌∙◌, sym}
use Rattle.record.specs.Layout.{ledger_of}
use Rattle.standing.proofs.Laws.{final_beside, final_held}
use Rattle.standing.proofs.final_stands.Goals as goal

pub returns-then-not-is_plain : goal.returns-then-not-is_plain
returns-then-not-is_plain c =
    let a = c.args in
    sym (final_beside (ledger_of a.rec.now) a.s.0 c.own_cell-c.result c.own_cell-c.ensures (sym c.is_plain.ensures ∙ c.if-not-is_plain.true))

pub returns : goal.returns
returns c =
    let a = c.args in
    c.held.ensures ∙ sym (final_held (ledger_of a.rec.now) a.s.0 c.own_cell-c.result c.own_cell-c.ensures (sym c.is_plain.ensures ∙ c.if-not-is_plain.false))
