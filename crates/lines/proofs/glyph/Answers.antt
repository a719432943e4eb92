-- The digits below ten, and those from ten on.
use Rattle.lines.proofs.Digits.{glyph_low, glyph_high}
use Rattle.lines.proofs.glyph.Goals as goal

pub returns-then-d-lt10 : goal.returns-then-d-lt10
returns-then-d-lt10 c = glyph_low _ c.if-d-lt10.true

pub returns-else-d-lt10 : goal.returns-else-d-lt10
returns-else-d-lt10 c = glyph_high _ c.if-d-lt10.false
