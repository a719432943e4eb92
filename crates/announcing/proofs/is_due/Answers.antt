-- The slot has a row.
use Rattle.announcing.proofs.Laws.{row_of}
use Rattle.announcing.proofs.is_due.Goals as goal

pub keeps_none-requires : goal.keeps_none-requires
keeps_none-requires c = row_of _ _ c.requires
