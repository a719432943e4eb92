-- Nothing where there is no vote, else the numbers.
use mathlib.Core.Path.{sym, ◌∙◌}
use borrow.Author.Tests.{eqb-true, eqb-false}
use Rattle.lines.proofs.Composed.{no_votes_lem, some_votes}
use Rattle.lines.proofs.Page.votes.Goals as goal

pub returns-then-is_empty : goal.returns-then-is_empty
returns-then-is_empty c = no_votes_lem _ (eqb-true _ 0 (sym c.is_empty.ensures ∙ c.if-is_empty.true))

pub returns : goal.returns
returns c = some_votes _ (eqb-false _ 0 (sym c.is_empty.ensures ∙ c.if-is_empty.false)) c.text.ensures c.numbers.ensures
