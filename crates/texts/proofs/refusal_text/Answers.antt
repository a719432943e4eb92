-- 9, or the text from the buffer's front.
use Rattle.std.proofs.Common.{rules}
use Rattle.lines.proofs.Paging.{ended}
use Rattle.texts.proofs.Laws.{no_room, has_room}
use Rattle.texts.proofs.refusal_text.Goals as goal

pub returns-then-buffer-lt-ROOM : goal.returns-then-buffer-lt-ROOM
returns-then-buffer-lt-ROOM c = no_room _ _ c.if-buffer-lt-ROOM.true

pub returns : goal.returns
returns c =
    has_room _ c.if-buffer-lt-ROOM.false (ended c.put_refusal.ensures c.new-page.ensures.same c.new-page.ensures.front c.used.ensures (search rules))
