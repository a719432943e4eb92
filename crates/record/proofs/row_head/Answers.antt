-- The card is behind 15 words, and 13 certificates are behind it.
use native.Mathlib.Omega.{arith}
use Rattle.record.proofs.Places.{mask_few}
use Rattle.record.proofs.row_head.Goals as goal

pub overflow_mul-result : goal.overflow_mul-result
overflow_mul-result c = omega (arith, c.mask_words.ensures, mask_few c.args.places)

pub overflow_add-result : goal.overflow_add-result
overflow_add-result c = omega (arith, c.mask_words.ensures, mask_few c.args.places)

pub overflow_mul-result-2 : goal.overflow_mul-result-2
overflow_mul-result-2 c = omega (arith, c.mask_words.ensures, mask_few c.args.places)

pub overflow_add-result-2 : goal.overflow_add-result-2
overflow_add-result-2 c = omega (arith, c.mask_words.ensures, mask_few c.args.places)

pub returns : goal.returns
returns c = omega (arith, c.mask_words.ensures)
