-- The text, and the line's end.
use Rattle.door.proofs.Laws.{next_after}
use Rattle.door.proofs.tell_line.Goals as goal

pub returns : goal.returns
returns c = next_after c.text.ensures c.end_line.ensures
