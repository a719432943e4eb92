-- A refusal is its number; else the count and the bytes follow.
use Rattle.lines.specs.Answers.{packet_line}
use Rattle.lines.proofs.Paging.{and_then}
use Rattle.lines.proofs.Composed.{refused, answered}
use Rattle.lines.proofs.Page.packet_line.Goals as goal

pub returns-then-n-ne0 : goal.returns-then-n-ne0
unfolding packet_line
returns-then-n-ne0 c = refused _ _ _ c.if-n-ne0.true c.number_line.ensures

pub returns : goal.returns
unfolding packet_line
returns c =
    answered _ _ _ c.if-n-ne0.false c.byte.ensures (and_then c.spaced.ensures (and_then c.byte-2.ensures c.front.ensures)) c.byte-3.ensures
