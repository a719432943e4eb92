-- The row's start, and the places below.
use Rattle.record.proofs.Places.{block_here}
use Rattle.record.proofs.block_start.Goals as goal

pub returns : goal.returns
returns c =
    block_here c.args.rec.now c.args.s.0 c.args.n c.row_start.result c.requires c.row_start.ensures
