use mathlib.Core.Path.{sym}
use Rattle.rule_laws.proofs.ToolLaws.{choose_on, choose_off}
use Rattle.lines.proofs.Paging.{as_text, put_nothing}
use Rattle.help.proofs.put_told.Goals as goal

pub returns-then-on : goal.returns-then-on
returns-then-on c = as_text (sym (choose_on _ _ _ c.if-on.true)) c.byte.ensures

pub returns-else-on : goal.returns-else-on
returns-else-on c = as_text (sym (choose_off _ _ _ c.if-on.false)) (put_nothing _)
