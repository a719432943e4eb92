use Rattle.help.specs.Manual.{asked}
use Rattle.help.proofs.put_asked.Goals as goal

pub returns : goal.returns
unfolding asked
returns c = c.put_topic.ensures
