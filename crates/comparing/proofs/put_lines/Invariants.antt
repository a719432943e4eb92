-- The loop over the lines: those before the present one are put.
use Rattle.lines.specs.Page.{Wrote}
use Rattle.comparing.specs.Compared.{parts_to, line_text}
use Rattle.comparing.proofs.put_lines.Given as goal

abbrev pub invariant-loop-line : goal.invariant-loop-line
invariant-loop-line l = Wrote l.initial.page (parts_to (line_text l.list) l.line-index) l.page
