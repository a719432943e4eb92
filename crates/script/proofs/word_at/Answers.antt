-- The next word: the two stretches, from the nearer of the place and the line's end.
use Rattle.script.proofs.word_at.Goals as goal

pub returns : goal.returns
returns c =
    record { from = rw (← c.min.ensures) c.skip_spaces-from.ensures; to = c.word_end-to.ensures }
