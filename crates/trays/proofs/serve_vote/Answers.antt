-- The vote's refusal, or the vote taken.
use mathlib.Core.Path.{sym}
use Rattle.std.proofs.lemmas.Result.{err_from_is_err_and}
use Rattle.trays.proofs.OneVote.{serving_counted, vote_refused, vote_taken}
use Rattle.trays.proofs.serve_vote.Goals as goal

pub vote_verdict-requires : goal.vote_verdict-requires
vote_verdict-requires c = serving_counted c.args.v c.requires.0

pub take_vote-requires : goal.take_vote-requires
take_vote-requires c =
    (record { serving = c.requires.0; fine = sym (c.in_ok-vote_verdict.ensures) }, c.requires.1)

pub returns-in_err-vote_verdict : goal.returns-in_err-vote_verdict
returns-in_err-vote_verdict c =
    let p = err_from_is_err_and c.from_residual.result c.from_residual.ensures.1 in
    rw (p.1, p.2) (c.requires.1, vote_refused c.args.v c.requires.0 _ (sym (c.in_err-vote_verdict.ensures)))

pub returns : goal.returns
returns c =
    let taken = c.take_vote.ensures in
    (taken.0, vote_taken c.args.v c.requires.0 _ (sym (c.in_ok-vote_verdict.ensures)) taken.1)
