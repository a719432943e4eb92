use Rattle.lines.proofs.Paging.{and_then}
use Rattle.help.specs.Topics.{topic_of}
use Rattle.help.proofs.put_manual.Goals as goal

pub returns : goal.returns
unfolding topic_of
returns c =
    and_then c.put_told_commands.ensures (and_then c.put_packets.ensures (and_then c.put_shown.ensures (and_then c.put_asked.ensures c.put_compared.ensures)))
