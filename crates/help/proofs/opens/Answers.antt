use mathlib.Core.Path.{◌∙◌}
use Rattle.help.proofs.Laws.{goes_on_lem, indented, not_indented}
use Rattle.help.proofs.opens.Goals as goal

pub returns-then-not-fresh : goal.returns-then-not-fresh
returns-then-not-fresh c = goes_on_lem _ _ _ _ (c.if-not-fresh.true)

pub returns-then-rest-eq32 : goal.returns-then-rest-eq32
returns-then-rest-eq32 c = indented _ _ _ _ (c.if-not-fresh.false) c.if-rest-eq32.true

pub returns : goal.returns
returns c = c.named.ensures ∙ not_indented _ _ _ _ (c.if-not-fresh.false) c.if-rest-eq32.false
