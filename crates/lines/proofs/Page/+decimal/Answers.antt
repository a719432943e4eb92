-- The digits before the last are put first.
use Rattle.lines.proofs.Composed.{last_digit, next_digit}
use Rattle.lines.proofs.Page.+decimal.Goals as goal

pub returns-then-n-lt10 : goal.returns-then-n-lt10
returns-then-n-lt10 t c = last_digit _ _ c.if-n-lt10.true c.glyph.ensures c.byte.ensures

pub returns : goal.returns
returns t c = next_digit _ _ c.if-n-lt10.false c.glyph-2.ensures c.decimal.ensures c.byte-2.ensures
