-- A word of 64 bits has no more.
use lib.Count.{ones-le}
use Rattle.stakes.proofs.ones_in.Goals as goal

pub returns : goal.returns
returns c = rw c.from.ensures (ones-le 64 _ c.ranges.word.fits)
