-- The four places for blocks.
use Rattle.heavy_blocks.proofs.Laws.{counted_names}
use Rattle.heavy_blocks.proofs.add_cell.Goals as goal

pub returns : goal.returns
returns c =
    counted_names c.args.c c.args.w c.add.ensures c.add-2.ensures c.add-3.ensures c.add-4.ensures
