-- The cells and the three sums, then the leader.
use mathlib.Core.Path.{◌∙◌}
use borrow.Author.Tests.{not-true, not-false}
use Rattle.record.specs.Layout.{ledger_of}
use Rattle.audit.proofs.Summing.{votes_off, votes_on_lem}
use Rattle.audit.proofs.votes_fit.Goals as goal

pub returns-then-not-sums-same : goal.returns-then-not-sums-same
returns-then-not-sums-same c =
    let t = c.load_card-t in
    let x = c.sums_of-sums in
    votes_off (ledger_of c.args.rec.now) c.args.s.0 c.requires.full t.result x.result t.ensures x.ensures c.if-not-sums-same.true

pub leader_fits-requires : goal.leader_fits-requires
leader_fits-requires c = record { weighing = c.requires.weighing; sums = c.sums_of-sums.ensures }

pub returns : goal.returns
returns c =
    let t = c.load_card-t in
    let x = c.sums_of-sums in
    c.leader_fits.ensures ∙ votes_on_lem (ledger_of c.args.rec.now) c.args.s.0 c.requires.full t.result x.result t.ensures x.ensures c.if-not-sums-same.false
