-- Eight words or-ed together are 0 exactly where each is.
use Rattle.blank_rows.proofs.Words.{seconds_none_lem}
use Rattle.blank_rows.proofs.every_second.Goals as goal

pub returns : goal.returns
returns c = seconds_none_lem _ _
