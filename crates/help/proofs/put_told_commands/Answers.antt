use Rattle.help.specs.Manual.{told}
use Rattle.help.proofs.put_told_commands.Goals as goal

pub returns : goal.returns
unfolding told
returns c = c.put_topic.ensures
