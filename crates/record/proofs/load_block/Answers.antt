-- Three words at the place are the block.
use Rattle.record.proofs.Reading.{block_read}
use Rattle.record.proofs.load_block.Goals as goal

pub returns : goal.returns
returns c = block_read c.args.rec.now c.args.s.0 c.args.n _ c.requires c.block_start-i.ensures.is
