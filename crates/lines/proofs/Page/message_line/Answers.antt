-- A refusal is its number; else the four numbers follow.
use native.Mathlib.Omega.{arith}
use Rattle.lines.specs.Answers.{message_line}
use Rattle.lines.proofs.Paging.{as_text}
use Rattle.lines.proofs.Composed.{refused, answered, four_numbers}
use Rattle.lines.proofs.Page.message_line.Goals as goal

pub returns-then-n-ne0 : goal.returns-then-n-ne0
unfolding message_line
returns-then-n-ne0 c = refused _ _ _ c.if-n-ne0.true c.number_line.ensures

pub returns : goal.returns
unfolding message_line
returns c =
    answered _ _ _ c.if-n-ne0.false c.byte.ensures (as_text (four_numbers _ (omega arith)) c.numbers.ensures) c.byte-2.ensures
