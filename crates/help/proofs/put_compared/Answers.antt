use Rattle.help.specs.Manual.{compared}
use Rattle.help.proofs.put_compared.Goals as goal

pub returns : goal.returns
unfolding compared
returns c = c.put_topic.ensures
