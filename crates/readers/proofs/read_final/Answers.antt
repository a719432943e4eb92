-- Each way through the question.
use Rattle.std.specs.Prelude.{◌≡◌, Ok, Err}
use Rattle.std.proofs.Common.{rules}
use mathlib.Core.Path.{sym, ap, ◌∙◌}
use Rattle.cards.proofs.Ways.{asked_fine}
use Rattle.readers.specs.Asked.{final_on}
use Rattle.readers.proofs.Ways.{slot_refused, slot_asked, slot_placed}
use Rattle.readers.proofs.read_final.Goals as goal

pub returns-in_err-asked : goal.returns-in_err-asked
unfolding final_on
returns-in_err-asked c =
    let e : c.from_residual.result ≡ Err c.in_err-asked.field-0.0 = search rules in
    e ∙ sym (slot_refused _ _ _ _ (sym c.asked.ensures ∙ c.in_err-asked.was))

pub final_block-requires : goal.final_block-requires
final_block-requires c = let k = asked_fine _ _ (sym c.asked.ensures ∙ c.in_ok-asked.was) in slot_placed _ _ k.0 k.1

pub returns : goal.returns
unfolding final_on
returns c =
    let k = asked_fine _ _ (sym c.asked.ensures ∙ c.in_ok-asked.was) in
    ap Ok c.final_block.ensures ∙ sym (slot_asked Err _ _ _ k.0 k.1)
