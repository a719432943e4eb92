-- No word for the slot, or one that is compared.
use mathlib.Core.Path.{◌≡◌, ◌∙◌}
use lib.ListN.{get_or}
use Rattle.rulebook.specs.Weights.{missing}
use Rattle.record.specs.Layout.{ledger_of}
use Rattle.looks.proofs.Beside.{short_none, short_some}
use Rattle.looks.proofs.is_short.Goals as goal

pub returns-in_default : goal.returns-in_default
returns-in_default c = let a = c.args in short_none (ledger_of a.rec.now) a.s.0 a.looks.now c.in_default.ensures.lookup.3

pub returns : goal.returns
returns c =
    let a = c.args in
    let here = c.in-Some.ensures.lookup.3 in
    let look : c.in-Some.look.now ≡ get_or a.looks.now a.s.0 0 = here.1 0 in
    short_some (ledger_of a.rec.now) a.s.0 a.looks.now _ here.0
    (c.missing-short.ensures ∙ (λ i. missing 3 (c.total.ensures i) (look i)))
