-- The value, or none.
use lib.Dec.{eqb}
use mathlib.Core.Path.{sym}
use borrow.Author.Tests.{eq-eqb, ne_eqb}
use Rattle.rule_laws.proofs.ToolLaws.{choose_on, choose_off}
use Rattle.comparing.proofs.listed.Goals as goal

pub returns-then-n-eq0 : goal.returns-then-n-eq0
returns-then-n-eq0 c = sym (choose_on (eqb c.args.n 0) _ _ (eq-eqb c.args.n 0 c.if-n-eq0.true))

pub returns-else-n-eq0 : goal.returns-else-n-eq0
returns-else-n-eq0 c = sym (choose_off (eqb c.args.n 0) _ _ (ne_eqb c.args.n 0 c.if-n-eq0.false))
