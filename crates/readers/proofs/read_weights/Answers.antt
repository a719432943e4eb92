-- Each way through the question.
use Rattle.std.specs.Prelude.{◌≡◌, Ok, Err}
use Rattle.std.proofs.Common.{rules}
use mathlib.Core.Path.{sym, ap, ◌∙◌}
use Rattle.cards.proofs.Ways.{asked_fine}
use Rattle.readers.specs.Weighed.{weights_on}
use Rattle.readers.proofs.Ways.{slot_refused, slot_carded, weights_none, weights_there}
use Rattle.readers.proofs.read_weights.Goals as goal

pub returns-in_err-asked : goal.returns-in_err-asked
unfolding weights_on
returns-in_err-asked c =
    let e : c.from_residual.result ≡ Err c.in_err-asked.field-0.0 = search rules in
    e ∙ sym (slot_refused _ _ _ _ (sym c.asked.ensures ∙ c.in_err-asked.was))

pub returns-then-b-eq0 : goal.returns-then-b-eq0
returns-then-b-eq0 c =
    let k = asked_fine _ _ (sym c.asked.ensures ∙ c.in_ok-asked.was) in sym (weights_none _ _ k.0 k.1 _ c.if-b-eq0.true)

pub load_weights-requires : goal.load_weights-requires
load_weights-requires c = let k = asked_fine _ _ (sym c.asked.ensures ∙ c.in_ok-asked.was) in slot_carded _ _ k.0 k.1

pub returns : goal.returns
returns c =
    let k = asked_fine _ _ (sym c.asked.ensures ∙ c.in_ok-asked.was) in
    ap Ok c.load_weights.ensures ∙ sym (weights_there _ _ k.0 k.1 _ c.if-b-eq0.false)
