use Rattle.help.proofs.Laws.{Left}
use Rattle.help.proofs.put_topic.Given as goal

abbrev pub invariant-loop-i : goal.invariant-loop-i
invariant-loop-i l = Left l.initial.page l.word l.text l.fresh l.on l.i l.page
