-- 32 words in a record that is long enough for 65 places.
use mathlib.Core.Path.{sym}
use native.Mathlib.Omega.{arith}
use Rattle.record.proofs.Places.{masks_small, masks_large}
use Rattle.record.proofs.masks_of.Goals as goal

pub returns-then-words-lt-LARGE_WORDS : goal.returns-then-words-lt-LARGE_WORDS
returns-then-words-lt-LARGE_WORDS c = sym (masks_small c.args.words (omega arith))

pub returns : goal.returns
returns c = sym (masks_large c.args.words (omega arith))
