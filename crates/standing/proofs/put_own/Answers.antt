-- No vote has no line; else its test is asked.
use Rattle.std.proofs.Common.{ap}
use mathlib.Core.Path.{sym, ◌∙◌}
use Rattle.inquest.specs.Lists.{unless}
use Rattle.inquest_lines.proofs.Laws.{laid_as, vote_none, some_or}
use Rattle.standing.proofs.Laws.{line_upto}
use Rattle.standing.proofs.put_own.Goals as goal

pub returns-then-word-eq0-clause-line : goal.returns-then-word-eq0-clause-line
returns-then-word-eq0-clause-line g c t h = vote_none _ _ _ c.if-word-eq0.true

pub returns-clause-line : goal.returns-clause-line
returns-clause-line g c t h =
    laid_as (ap (λ b. unless b c.args.x) (h _ c.stands.ensures ∙ sym (some_or c.args.word t c.if-word-eq0.false))) c.put_unless.ensures

pub returns-clause-upto : goal.returns-clause-upto
returns-clause-upto g c = line_upto _ _ c.put_unless.ensures
