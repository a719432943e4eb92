-- An even number of digits, room, and digits alone.
use mathlib.Core.Path.{◌∙◌}
use borrow.Author.Tests.{lt-leb}
use Rattle.hex_bytes.proofs.Pairs.{bytes_odd, bytes_many, bytes_say}
use Rattle.hex_bytes.proofs.spells_bytes.Goals as goal

pub returns-then-word-ne0 : goal.returns-then-word-ne0
returns-then-word-ne0 c = bytes_odd _ _ c.if-word-ne0.true

pub returns-then-word-room : goal.returns-then-word-room
returns-then-word-room c = c.all_pairs.ensures ∙ bytes_say _ _ c.if-word-ne0.false c.if-word-room.true

pub returns-else-word-room : goal.returns-else-word-room
returns-else-word-room c = lt-leb _ _ c.if-word-room.false ∙ bytes_many _ _ c.if-word-ne0.false c.if-word-room.false
