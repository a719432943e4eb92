-- No line where the test passes.
use Rattle.inquest_lines.proofs.Laws.{passes_none, fails_line}
use Rattle.inquest_lines.proofs.put_unless.Goals as goal

pub returns-then-passes : goal.returns-then-passes
returns-then-passes c = passes_none c.args.x _ c.if-passes.true

pub returns : goal.returns
returns c = fails_line c.args.x _ c.if-passes.false c.put_line.ensures
