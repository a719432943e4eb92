-- The packet, and that nothing follows it.
use Rattle.commands.proofs.Laws.{packet_is_alone}
use Rattle.commands.proofs.packet_alone.Goals as goal

pub returns : goal.returns
returns c =
    packet_is_alone _ _ c.word_at-w.result c.word_at-w.ensures _ _ c.packet_and_stakes-packed.ensures c.exactly-ended.ensures
