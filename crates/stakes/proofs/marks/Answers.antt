-- Every bit is turned, or none.
use Rattle.stakes.proofs.Stepping.{marks_rest, marks_same}
use Rattle.stakes.proofs.marks.Goals as goal

pub returns-then-rest : goal.returns-then-rest
returns-then-rest c = marks_rest _ _ c.ranges.word.fits c.if-rest.true

pub returns-else-rest : goal.returns-else-rest
returns-else-rest c = marks_same _ _ c.if-rest.false
