-- Each way through the question.
use Rattle.std.specs.Prelude.{◌≡◌, Ok, Err}
use Rattle.std.proofs.Common.{rules}
use mathlib.Core.Path.{sym, ap, ◌∙◌}
use Rattle.cards.proofs.Ways.{asked_fine}
use Rattle.readers.specs.Asked.{marks_on}
use Rattle.readers.proofs.Ways.{slot_refused, slot_asked, slot_placed}
use Rattle.readers.proofs.read_marks.Goals as goal

pub returns-in_err-asked : goal.returns-in_err-asked
unfolding marks_on
returns-in_err-asked c =
    let e : c.from_residual.result ≡ Err c.in_err-asked.field-0.0 = search rules in
    e ∙ sym (slot_refused _ _ _ _ (sym c.asked.ensures ∙ c.in_err-asked.was))

pub load_marks-requires : goal.load_marks-requires
load_marks-requires c = let k = asked_fine _ _ (sym c.asked.ensures ∙ c.in_ok-asked.was) in slot_placed _ _ k.0 k.1

pub returns : goal.returns
unfolding marks_on
returns c =
    let k = asked_fine _ _ (sym c.asked.ensures ∙ c.in_ok-asked.was) in
    ap Ok c.load_marks.ensures ∙ sym (slot_asked Err _ _ _ k.0 k.1)
