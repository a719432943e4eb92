-- The walk where it begins; where it does not it has nothing to tell.
use Rattle.run.proofs.ScanLaws.{walk_passes}
use Rattle.run.proofs.walk.Goals as goal

pub returns-then-not-walk_begins : goal.returns-then-not-walk_begins
returns-then-not-walk_begins c =
    walk_passes c.requires _ c.walk_begins.ensures (c.if-not-walk_begins.true)
