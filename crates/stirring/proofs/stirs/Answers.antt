-- No slot waits; too few name a block; kind 4.
use mathlib.Core.Path.{sym, ◌∙◌}
use borrow.Author.Tests.{not-false}
use Rattle.record.specs.Layout.{ledger_of}
use Rattle.parents.proofs.FewLaws.{few_reached}
use Rattle.looks.proofs.Beside.{short_names}
use Rattle.stirring.specs.Stirring.{unwaited, unnamed, unskipped}
use Rattle.stirring.proofs.stirs.Goals as goal

pub returns-then-not-is_awaited : goal.returns-then-not-is_awaited
returns-then-not-is_awaited c = (c.requires.2, λ _. unwaited (c.is_awaited.ensures (c.if-not-is_awaited.true)))

pub returns-then-names_block : goal.returns-then-names_block
returns-then-names_block c =
    let l = ledger_of c.args.rec.now in
    let s = c.args.s.0 in
    let counted = c.count_look.ensures in
    (counted, λ e. unnamed (sym c.names_block.ensures ∙ c.if-names_block.true) (λ x z. few_reached l s (short_names l s _ counted (sym c.is_short.ensures ∙ not-false _ e)) x z))

pub returns : goal.returns
returns c =
    (c.requires.2, λ e. unskipped (sym c.names_block.ensures ∙ c.if-names_block.false) (sym c.held.ensures ∙ e))
