-- A refusal is its number; else the count, the records and the votes' numbers follow.
use Rattle.lines.specs.Answers.{tray_line}
use Rattle.lines.proofs.Paging.{and_then}
use Rattle.lines.proofs.Composed.{refused, answered}
use Rattle.lines.proofs.Page.tray_line.Goals as goal

pub returns-then-n-ne0 : goal.returns-then-n-ne0
unfolding tray_line
returns-then-n-ne0 c = refused _ _ _ c.if-n-ne0.true c.number_line.ensures

pub returns : goal.returns
unfolding tray_line
returns c =
    answered _ _ _ c.if-n-ne0.false c.byte.ensures (and_then c.spaced.ensures (and_then c.records.ensures c.votes.ensures)) c.byte-2.ensures
