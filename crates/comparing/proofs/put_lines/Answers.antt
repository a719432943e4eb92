-- The loop over the lines: those before the present one are put.
use Rattle.lines.proofs.Paging.{as_text}
use Rattle.comparing.specs.Compared.{line_text}
use Rattle.comparing.proofs.Laws.{no_part, next_part, last_line}
use Rattle.comparing.proofs.Lines.{line_alone, last_alone}
use Rattle.comparing.proofs.put_lines.Goals as goal

pub loop-line-init : goal.loop-line-init
loop-line-init c = no_part _ (line_text c.args.list.now)

pub loop-line-preserved : goal.loop-line-preserved
loop-line-preserved c =
    next_part (line_text c.args.list.now) _ c.loop-line.invariant (as_text (line_alone _ _ _ c.loop-line.line-index c.as_chunks.ensures.front c.as_chunks.ensures.front_len c.loop-line-test.true) c.put_line.ensures)

pub returns : goal.returns
returns c =
    last_line c.args.list.now _ c.loop-line.line-index (last_alone _ _ _ _ _ c.min-many.ensures c.as_chunks.ensures.front_len c.loop-line-test.false c.loop-line.auto.line-index-end) c.loop-line.invariant
