-- The row's head, and the cells of the nodes below.
use native.Mathlib.Omega.{arith}
use Rattle.record.proofs.Places.{cell_here}
use Rattle.record.proofs.cell_start.Goals as goal

pub places_of-requires : goal.places_of-requires
places_of-requires c = c.requires.long

pub overflow_add-result : goal.overflow_add-result
overflow_add-result c =
    omega (arith, (cell_here c.args.rec.now c.places_of.result c.places_of.ensures c.args.s.0 c.args.n.0 c.row_start.result c.row_head.result c.requires c.row_start.ensures c.row_head.ensures).inside)

pub overflow_mul-result : goal.overflow_mul-result
overflow_mul-result c =
    omega (arith, (cell_here c.args.rec.now c.places_of.result c.places_of.ensures c.args.s.0 c.args.n.0 c.row_start.result c.row_head.result c.requires c.row_start.ensures c.row_head.ensures).inside)

pub overflow_add-result-2 : goal.overflow_add-result-2
overflow_add-result-2 c =
    omega (arith, (cell_here c.args.rec.now c.places_of.result c.places_of.ensures c.args.s.0 c.args.n.0 c.row_start.result c.row_head.result c.requires c.row_start.ensures c.row_head.ensures).inside)

pub returns : goal.returns
returns c =
    cell_here c.args.rec.now c.places_of.result c.places_of.ensures c.args.s.0 c.args.n.0 c.row_start.result c.row_head.result c.requires c.row_start.ensures c.row_head.ensures
