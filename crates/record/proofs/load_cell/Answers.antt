-- The seven words at the cell's place are the ledger's cell.
use Rattle.record.proofs.Reading.{cell_read}
use Rattle.record.proofs.load_cell.Goals as goal

pub returns : goal.returns
returns c = cell_read c.args.rec.now c.args.s.0 c.args.n.0 _ c.requires c.cell_start-i.ensures.is
