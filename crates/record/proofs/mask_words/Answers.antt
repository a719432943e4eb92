-- 32 words above 64 places.
use mathlib.Core.Path.{sym}
use native.Mathlib.Omega.{arith}
use Rattle.record.proofs.Places.{mask_small, mask_large}
use Rattle.record.proofs.mask_words.Goals as goal

pub returns-then-places-gt-SMALL_PLACES : goal.returns-then-places-gt-SMALL_PLACES
returns-then-places-gt-SMALL_PLACES c = sym (mask_large c.args.places (omega arith))

pub returns : goal.returns
returns c = sym (mask_small c.args.places (omega arith))
