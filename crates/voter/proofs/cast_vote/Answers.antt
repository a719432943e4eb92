-- The vote is stored under the own number and told with its kind's number.
use Rattle.voter.proofs.CastLaws.{moved_cast}
use Rattle.voter.proofs.cast_vote.Goals as goal

pub returns : goal.returns
returns c =
    let a = c.args in
    moved_cast a.k c.from.result c.own-n.result.0 a.s.0 a.block c.tell.ensures c.from.ensures c.store_vote.ensures c.own-n.ensures
