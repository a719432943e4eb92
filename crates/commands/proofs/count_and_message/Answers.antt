-- The count before the message, and nothing after it.
use mathlib.Core.Path.{sym}
use lib.Seq.{length-take-le}
use Rattle.commands.proofs.Laws.{message_is}
use Rattle.commands.proofs.count_and_message.Goals as goal

pub slice_bounds-exactly-end : goal.slice_bounds-exactly-end
slice_bounds-exactly-end c = sym (length-take-le c.word_at-to.result.to c.before.args.line.now c.word_at-to.ensures.to.high)

pub returns : goal.returns
returns c =
    message_is _ _ c.word_at-to.result c.word_at-to.ensures _ _ c.exactly-counted.ensures c.packet_alone-packed.ensures
