-- The number, the value, the lines and the line's end.
use mathlib.Core.Path.{ap}
use Rattle.lines.proofs.Paging.{as_text, and_then}
use Rattle.comparing.specs.Compared.{lines_text, differ_line}
use Rattle.comparing.proofs.differ_line.Goals as goal

pub returns : goal.returns
unfolding differ_line
returns c =
    and_then c.decimal.ensures (and_then c.named.ensures (and_then (as_text (ap (lines_text c.args.list.now) c.listed.ensures) c.put_lines.ensures) c.byte.ensures))
