-- The row's start, the words before the certificates, and the places below.
use native.Mathlib.Omega.{arith}
use Rattle.record.proofs.Places.{mask_few, kept_here}
use Rattle.record.proofs.kept_start.Goals as goal

pub overflow_add-result : goal.overflow_add-result
overflow_add-result c = omega (arith, c.row_start.ensures.inside)

pub places_of-requires : goal.places_of-requires
places_of-requires c = c.requires.long

pub overflow_mul-result : goal.overflow_mul-result
overflow_mul-result c =
    omega (arith, mask_few c.places_of.result, c.mask_words.ensures, (kept_here c.args.rec.now c.places_of.result c.places_of.ensures c.args.s.0 c.args.n c.row_start.result c.mask_words.result c.requires c.row_start.ensures c.mask_words.ensures).inside)

pub overflow_add-result-2 : goal.overflow_add-result-2
overflow_add-result-2 c =
    omega (arith, mask_few c.places_of.result, c.mask_words.ensures, (kept_here c.args.rec.now c.places_of.result c.places_of.ensures c.args.s.0 c.args.n c.row_start.result c.mask_words.result c.requires c.row_start.ensures c.mask_words.ensures).inside)

pub overflow_mul-result-2 : goal.overflow_mul-result-2
overflow_mul-result-2 c =
    omega (arith, mask_few c.places_of.result, c.mask_words.ensures, (kept_here c.args.rec.now c.places_of.result c.places_of.ensures c.args.s.0 c.args.n c.row_start.result c.mask_words.result c.requires c.row_start.ensures c.mask_words.ensures).inside)

pub overflow_add-result-3 : goal.overflow_add-result-3
overflow_add-result-3 c =
    omega (arith, mask_few c.places_of.result, c.mask_words.ensures, (kept_here c.args.rec.now c.places_of.result c.places_of.ensures c.args.s.0 c.args.n c.row_start.result c.mask_words.result c.requires c.row_start.ensures c.mask_words.ensures).inside)

pub returns : goal.returns
returns c =
    kept_here c.args.rec.now c.places_of.result c.places_of.ensures c.args.s.0 c.args.n c.row_start.result c.mask_words.result c.requires c.row_start.ensures c.mask_words.ensures
