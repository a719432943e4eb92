-- `word_beyond` finds by and what lies past the first `left` bits. Assumes nothing.
use Rattle.stakes.proofs.Laws.{beyond_first}
use Rattle.stakes.proofs.word_beyond.Goals as goal

pub returns : goal.returns
returns c = rw c.first_nodes.ensures (beyond_first c.args.word c.args.left c.ranges.word.fits)
