-- Too few words have no place; else what is left after those of no place, in parts of one place each.
use native.Mathlib.Omega.{arith}
use lib.ListN.{length}
use Rattle.record.proofs.Places.{masks_few, few_placeless, places_told}
use Rattle.record.proofs.places_in.Goals as goal

pub overflow_mul-bare : goal.overflow_mul-bare
overflow_mul-bare c = omega (arith, c.masks_of.ensures, masks_few (length c.args.rec.now))

pub overflow_add-bare : goal.overflow_add-bare
overflow_add-bare c = omega (arith, c.masks_of.ensures, masks_few (length c.args.rec.now))

pub returns-then-rec-bare : goal.returns-then-rec-bare
returns-then-rec-bare c = few_placeless c.args.rec.now c.masks_of.result c.masks_of.ensures (omega arith)

pub returns : goal.returns
returns c = places_told c.args.rec.now c.masks_of.result c.masks_of.ensures
