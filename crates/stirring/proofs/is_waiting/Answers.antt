-- A window's first slot, no own initial vote, D's block.
use mathlib.Core.Path.{sym, ◌∙◌}
use Rattle.rule_laws.proofs.ToolLaws.{true_not_false}
use Rattle.record.specs.Layout.{ledger_of}
use Rattle.stirring.proofs.Asked.{first_done, later_done}
use Rattle.stirring.proofs.is_waiting.Goals as goal

pub returns-then-is_first : goal.returns-then-is_first
returns-then-is_first c =
    let a = c.args in
    λ e. first_done (ledger_of a.rec.now) a.t.0 _ c.own_cell-c.ensures (sym c.is_first.ensures ∙ c.if-is_first.true) _ _ c.is_armed.ensures c.no_initial.ensures _ c.load_block-b.ensures e

pub returns-then-no_initial : goal.returns-then-no_initial
returns-then-no_initial c =
    let a = c.args in
    λ _. later_done (ledger_of a.rec.now) a.t.0 _ c.own_cell-c.ensures (sym c.is_first.ensures ∙ c.if-is_first.false) (λ e. true_not_false _ (sym c.no_initial-2.ensures ∙ c.if-no_initial.true) e)

pub returns : goal.returns
returns c =
    let a = c.args in
    λ e. later_done (ledger_of a.rec.now) a.t.0 _ c.own_cell-c.ensures (sym c.is_first.ensures ∙ c.if-is_first.false) (λ _. c.may_fall.ensures e)
