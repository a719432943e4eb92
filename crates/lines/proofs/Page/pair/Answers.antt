-- The higher digit and then the lower.
use mathlib.Core.Path.{ap}
use Rattle.lines.specs.Text.{hex_pair}
use Rattle.lines.proofs.Paging.{as_text}
use Rattle.lines.proofs.Composed.{both_digits}
use Rattle.lines.proofs.Page.pair.Goals as goal

pub returns : goal.returns
returns c =
    as_text (ap hex_pair c.from-w.ensures) (both_digits _ _ _ c.glyph.ensures c.glyph-2.ensures c.byte.ensures c.byte-2.ensures)
