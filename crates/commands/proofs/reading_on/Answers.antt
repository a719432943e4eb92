-- The first word, and whether the rest fits.
use Rattle.commands.proofs.Laws.{reading_meets, reading_none}
use Rattle.commands.proofs.reading_on.Goals as goal

pub returns-then-reading_fits : goal.returns-then-reading_fits
returns-then-reading_fits c =
    reading_meets _ c.word_at-from.result c.word_at-from.ensures c.reading_named-r.result c.reading_named-r.ensures _ c.reading_fits.ensures c.if-reading_fits.true

pub returns : goal.returns
returns c =
    reading_none _ c.word_at-from.result c.word_at-from.ensures c.reading_named-r.result c.reading_named-r.ensures _ c.reading_fits.ensures c.if-reading_fits.false
