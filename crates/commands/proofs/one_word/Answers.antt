-- The word, and that nothing follows it.
use Rattle.commands.proofs.Laws.{word_alone}
use Rattle.commands.proofs.one_word.Goals as goal

pub returns : goal.returns
returns c = word_alone _ _ c.word_at-from.result c.word_at-from.ensures _ c.exactly-ended.ensures
