-- Each way through the question.
use Rattle.std.specs.Prelude.{◌≡◌, Ok, Err}
use Rattle.std.proofs.Common.{rules}
use mathlib.Core.Path.{sym, ap, ◌∙◌}
use Rattle.cards.proofs.Ways.{asked_fine}
use Rattle.readers.specs.Asked.{armed_on}
use Rattle.readers.proofs.Ways.{slot_refused, slot_asked, window_placed}
use Rattle.readers.proofs.read_armed.Goals as goal

pub returns-in_err-asked : goal.returns-in_err-asked
unfolding armed_on
returns-in_err-asked c =
    let e : c.from_residual.result ≡ Err c.in_err-asked.field-0.0 = search rules in
    e ∙ sym (slot_refused _ _ _ _ (sym c.asked.ensures ∙ c.in_err-asked.was))

pub is_armed-requires : goal.is_armed-requires
is_armed-requires c = let k = asked_fine _ _ (sym c.asked.ensures ∙ c.in_ok-asked.was) in window_placed _ _ k.0 k.1

pub returns : goal.returns
unfolding armed_on
returns c =
    let k = asked_fine _ _ (sym c.asked.ensures ∙ c.in_ok-asked.was) in
    ap Ok c.is_armed.ensures ∙ sym (slot_asked Err _ _ _ k.0 k.1)
