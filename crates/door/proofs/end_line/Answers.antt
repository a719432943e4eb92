-- The line was sent, and had room.
use Rattle.door.proofs.Laws.{next_front}
use Rattle.door.proofs.end_line.Goals as goal

pub returns-in-Ok : goal.returns-in-Ok
returns-in-Ok c = rw (c.rewind.ensures, c.in-Ok.is) (next_front c.byte.ensures c.send_page-sent.ensures c.in-Ok.is)
