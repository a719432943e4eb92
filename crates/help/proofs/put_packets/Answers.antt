use Rattle.help.specs.Manual.{packets}
use Rattle.help.proofs.put_packets.Goals as goal

pub returns : goal.returns
unfolding packets
returns c = c.put_topic.ensures
