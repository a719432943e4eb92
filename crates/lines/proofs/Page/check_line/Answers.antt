-- 15 is followed by what is missing, any other refusal by nothing, 0 by the five values.
use native.Mathlib.Omega.{arith}
use Rattle.lines.proofs.Paging.{as_text}
use Rattle.lines.proofs.Composed.{refused, answered, lacking, not_lacking, five_numbers}
use Rattle.lines.proofs.Page.check_line.Goals as goal

pub returns-then-n-eq15 : goal.returns-then-n-eq15
returns-then-n-eq15 c = lacking _ _ _ c.if-n-eq15.true c.missing_line.ensures

pub returns-then-n-ne0 : goal.returns-then-n-ne0
returns-then-n-ne0 c = not_lacking _ _ _ c.if-n-eq15.false (refused _ _ _ c.if-n-ne0.true c.number_line.ensures)

pub returns : goal.returns
returns c =
    not_lacking _ _ _ c.if-n-eq15.false (answered _ _ _ c.if-n-ne0.false c.byte.ensures (as_text (five_numbers _ _ (omega arith)) c.numbers.ensures) c.byte-2.ensures)
