-- Each way through the question.
use Rattle.std.specs.Prelude.{◌≡◌, Ok, Err}
use Rattle.std.proofs.Common.{rules}
use mathlib.Core.Path.{sym, ap, ◌∙◌}
use Rattle.cards.proofs.Ways.{asked_fine}
use Rattle.readers.specs.Asked.{blocks_on}
use Rattle.readers.proofs.Ways.{slot_refused, slot_asked, slot_placed}
use Rattle.readers.proofs.read_blocks.Goals as goal

pub returns-in_err-asked : goal.returns-in_err-asked
unfolding blocks_on
returns-in_err-asked c =
    let e : c.from_residual.result ≡ Err c.in_err-asked.field-0.0 = search rules in
    e ∙ sym (slot_refused _ _ _ _ (sym c.asked.ensures ∙ c.in_err-asked.was))

pub load_blocks-requires : goal.load_blocks-requires
load_blocks-requires c = let k = asked_fine _ _ (sym c.asked.ensures ∙ c.in_ok-asked.was) in slot_placed _ _ k.0 k.1

pub returns : goal.returns
unfolding blocks_on
returns c =
    let k = asked_fine _ _ (sym c.asked.ensures ∙ c.in_ok-asked.was) in
    ap Ok c.load_blocks.ensures ∙ sym (slot_asked Err _ _ _ k.0 k.1)
