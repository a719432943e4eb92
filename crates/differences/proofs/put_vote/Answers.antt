-- The first has it alone, the second, or neither.
use Rattle.differences.proofs.LineLaws.{told_first, told_second, told_none}
use Rattle.differences.proofs.put_vote.Goals as goal

pub returns-then-first-second : goal.returns-then-first-second
returns-then-first-second c =
    told_first _ _ _ _ _ c.keeps-first.ensures c.keeps-second.ensures c.if-first-second.true c.put_line.ensures

pub returns-then-second-first : goal.returns-then-second-first
returns-then-second-first c =
    told_second _ _ _ _ _ c.keeps-first.ensures c.keeps-second.ensures c.if-second-first.true c.put_line-then-second-first.ensures

pub returns : goal.returns
returns c =
    told_none _ _ _ _ _ c.keeps-first.ensures c.keeps-second.ensures c.if-first-second.false c.if-second-first.false
