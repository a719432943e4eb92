-- What is left after the words of no place, in parts of one place each.
use native.Mathlib.Omega.{arith}
use lib.ListN.{length}
use Rattle.record.proofs.Places.{masks_few, long_some, places_told}
use Rattle.record.proofs.places_of.Goals as goal

pub overflow_mul-bare : goal.overflow_mul-bare
overflow_mul-bare c = omega (arith, c.masks_of.ensures, masks_few (length c.args.rec.now))

pub overflow_add-bare : goal.overflow_add-bare
overflow_add-bare c = omega (arith, c.masks_of.ensures, masks_few (length c.args.rec.now))

pub overflow_sub-result : goal.overflow_sub-result
overflow_sub-result c = long_some c.args.rec.now c.masks_of.result c.masks_of.ensures c.requires

pub returns : goal.returns
returns c = places_told c.args.rec.now c.masks_of.result c.masks_of.ensures
