-- Each way through the question.
use Rattle.std.specs.Prelude.{◌≡◌, Ok, Err}
use Rattle.std.proofs.Common.{rules}
use mathlib.Core.Path.{sym, ap, ◌∙◌}
use Rattle.cards.specs.Asked.{card_on}
use Rattle.cards.proofs.Ways.{asked_fine, asked_refused, card_there, card_placed}
use Rattle.cards.proofs.read_card.Goals as goal

pub returns-in_err-asked : goal.returns-in_err-asked
unfolding card_on
returns-in_err-asked c =
    let e : c.from_residual.result ≡ Err c.in_err-asked.field-0.0 = search rules in
    e ∙ sym (asked_refused _ _ _ _ (sym c.asked.ensures ∙ c.in_err-asked.was))

pub load_card-requires : goal.load_card-requires
load_card-requires c =
    let k = asked_fine _ _ (sym c.asked.ensures ∙ c.in_ok-asked.was) in
    card_placed _ _ k.0 k.1

pub returns : goal.returns
returns c =
    let k = asked_fine _ _ (sym c.asked.ensures ∙ c.in_ok-asked.was) in
    ap Ok c.load_card.ensures ∙ sym (card_there _ _ k.0 k.1)
