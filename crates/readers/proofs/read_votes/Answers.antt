-- Each way through the question.
use Rattle.std.specs.Prelude.{◌≡◌, Ok, Err}
use Rattle.std.proofs.Common.{rules}
use mathlib.Core.Path.{sym, ap, ◌∙◌}
use Rattle.soundness.proofs.Laws.{sound_long}
use Rattle.cards.proofs.Ways.{asked_fine}
use Rattle.readers.specs.Asked.{votes_on}
use Rattle.readers.proofs.Ways.{slot_refused, in_table_lem, votes_none, votes_there, votes_placed}
use Rattle.readers.proofs.read_votes.Goals as goal

pub returns-in_err-asked : goal.returns-in_err-asked
unfolding votes_on
returns-in_err-asked c =
    let e : c.from_residual.result ≡ Err c.in_err-asked.field-0.0 = search rules in
    e ∙ sym (slot_refused _ _ _ _ (sym c.asked.ensures ∙ c.in_err-asked.was))

pub count-requires : goal.count-requires
count-requires c = sound_long _ (asked_fine _ _ (sym c.asked.ensures ∙ c.in_ok-asked.was)).0

pub returns-then-not_in_table : goal.returns-then-not_in_table
returns-then-not_in_table c =
    let k = asked_fine _ _ (sym c.asked.ensures ∙ c.in_ok-asked.was) in
    sym (votes_none _ _ k.0 k.1 _ (in_table_lem _ _ _ _ c.count.ensures c.not_in_table.ensures ∙ c.if-not_in_table.true))

pub load_cell-requires : goal.load_cell-requires
load_cell-requires c =
    let k = asked_fine _ _ (sym c.asked.ensures ∙ c.in_ok-asked.was) in
    votes_placed _ _ k.0 k.1 _ (in_table_lem _ _ _ _ c.count.ensures c.not_in_table.ensures ∙ c.if-not_in_table.false)

pub returns : goal.returns
returns c =
    let k = asked_fine _ _ (sym c.asked.ensures ∙ c.in_ok-asked.was) in
    ap Ok c.load_cell.ensures
    ∙ sym (votes_there _ _ k.0 k.1 _ (in_table_lem _ _ _ _ c.count.ensures c.not_in_table.ensures ∙ c.if-not_in_table.false))
