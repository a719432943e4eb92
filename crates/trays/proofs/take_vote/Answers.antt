-- The vote noted and stored, then the rules run.
use Rattle.run.proofs.ScanLaws.{bounds_settled}
use Rattle.trays.proofs.OneVote.{vote_storing, vote_way, vote_noted, vote_run}
use Rattle.trays.proofs.take_vote.Goals as goal

pub note_vote-requires : goal.note_vote-requires
note_vote-requires c = record { storing = vote_storing c.requires.0; bounds = c.requires.1 }

pub store_vote-requires : goal.store_vote-requires
store_vote-requires c = vote_storing c.requires.0

pub settle_with-requires : goal.settle_with-requires
settle_with-requires c =
    let taking = c.requires.0 in
    let stored = c.store_vote in
    (vote_way taking _ stored.auto.rec stored.ensures, vote_noted taking _ stored.auto.rec stored.ensures _ c.note_vote.ensures)

pub returns : goal.returns
returns c =
    let taking = c.requires.0 in
    let stored = c.store_vote in
    let settled = c.settle_with.ensures in
    let noted = vote_noted taking _ stored.auto.rec stored.ensures _ c.note_vote.ensures in
    (bounds_settled (vote_way taking _ stored.auto.rec stored.ensures).live settled _ noted, vote_run taking _ stored.auto.rec stored.ensures settled)
