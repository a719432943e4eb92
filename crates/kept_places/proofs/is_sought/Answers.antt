-- Kind and block decide, or what is kept does.
use Rattle.kept_places.proofs.Laws.{sought_not, sought_wanted}
use Rattle.kept_places.proofs.is_sought.Goals as goal

pub returns-then-suits : goal.returns-then-suits
returns-then-suits c =
    sought_wanted _ _ _ _ c.suits.ensures _ _ c.if-suits.true c.is_kept.ensures c.wants.ensures

pub returns-else-suits : goal.returns-else-suits
returns-else-suits c = sought_not _ _ _ _ c.suits.ensures c.if-suits.false
