-- `lay_vote` writes the four numbers one after the other: one run of bytes. Assumes nothing.
use Rattle.messages.proofs.Laid.{four}
use Rattle.messages.proofs.lay_vote.Goals as goal

pub returns : goal.returns
returns c =
    four c.args.v c.requires.ends c.from.ensures c.write_number-p.ensures c.write_number-q.ensures c.write_number-r.ensures c.write_number.ensures
