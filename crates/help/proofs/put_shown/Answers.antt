use Rattle.help.specs.Manual.{shown}
use Rattle.help.proofs.put_shown.Goals as goal

pub returns : goal.returns
unfolding shown
returns c = c.put_topic.ensures
