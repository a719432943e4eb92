-- The head, and the rows of the slots below.
use native.Mathlib.Omega.{arith}
use Rattle.record.specs.Layout.{places_in}
use Rattle.record.proofs.Places.{words_in_lem, places_words, row_sum, row_here}
use Rattle.record.proofs.row_start.Goals as goal

pub places_of-p-requires : goal.places_of-p-requires
places_of-p-requires c = c.requires.long

pub overflow_add-result : goal.overflow_add-result
overflow_add-result c =
    let ws = c.args.rec.now in
    omega (arith, c.places_of-p.ensures, places_words (places_in ws) ws, words_in_lem ws c.requires.long)

pub overflow_mul-result : goal.overflow_mul-result
overflow_mul-result c =
    omega (arith, row_sum c.args.rec.now c.places_of-p.result c.places_of-p.ensures c.args.s.0 c.row_head.result c.requires c.row_head.ensures)

pub overflow_add-result-2 : goal.overflow_add-result-2
overflow_add-result-2 c =
    omega (arith, row_sum c.args.rec.now c.places_of-p.result c.places_of-p.ensures c.args.s.0 c.row_head.result c.requires c.row_head.ensures)

pub overflow_mul-result-2 : goal.overflow_mul-result-2
overflow_mul-result-2 c =
    omega (arith, row_sum c.args.rec.now c.places_of-p.result c.places_of-p.ensures c.args.s.0 c.row_head.result c.requires c.row_head.ensures)

pub overflow_add-result-3 : goal.overflow_add-result-3
overflow_add-result-3 c =
    omega (arith, row_sum c.args.rec.now c.places_of-p.result c.places_of-p.ensures c.args.s.0 c.row_head.result c.requires c.row_head.ensures)

pub returns : goal.returns
returns c =
    row_here c.args.rec.now c.places_of-p.result c.places_of-p.ensures c.args.s.0 c.row_head.result c.requires c.row_head.ensures
