-- As the slot is stranded or not.
use mathlib.Core.Path.{sym, ap, ◌∙◌}
use Rattle.dormancy.specs.Dormant.{first_asked}
use Rattle.dormancy.proofs.first_asked.Goals as goal

pub returns-then-is_stranded : goal.returns-then-is_stranded
unfolding first_asked
returns-then-is_stranded c = sym (ap first_asked (sym c.is_stranded.ensures ∙ c.if-is_stranded.true))

pub returns : goal.returns
unfolding first_asked
returns c = sym (ap first_asked (sym c.is_stranded.ensures ∙ c.if-is_stranded.false))
