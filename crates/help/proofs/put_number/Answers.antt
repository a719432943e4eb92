use Rattle.help.proofs.Laws.{no_number, a_number}
use Rattle.help.proofs.put_number.Goals as goal

pub returns-then-n-le-LAST_REFUSAL : goal.returns-then-n-le-LAST_REFUSAL
returns-then-n-le-LAST_REFUSAL c = a_number _ c.if-n-le-LAST_REFUSAL.true c.decimal.ensures c.text.ensures

pub returns-else-n-le-LAST_REFUSAL : goal.returns-else-n-le-LAST_REFUSAL
returns-else-n-le-LAST_REFUSAL c = no_number _ _ c.if-n-le-LAST_REFUSAL.false
