-- `word_overlap` finds by and whether some of the 64 nodes is in both words. Assumes nothing.
use Rattle.rule_laws.proofs.MaskLaws.{overlap_is}
use Rattle.stakes.proofs.word_overlap.Goals as goal

pub returns : goal.returns
returns c = overlap_is c.args.a c.args.b 64 c.ranges.a.fits
