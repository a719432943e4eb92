-- `make_table` answers `made_of`: the stakes are summed one by one, and what the sums tell is told at the end. Assumes nothing.
use Rattle.std.proofs.Common.{◌^◌, ◌<◌, refl, arith}
use Rattle.rulebook.specs.Weights.{stake_in}
use Rattle.stakes.proofs.Loops.{bad_count, summing_none, summing_more, summing_bad, summing_done}
use Rattle.stakes.proofs.make_table.Goals as goal

pub returns-then-count : goal.returns-then-count
returns-then-count c = bad_count c.args.stakes.now c.if-count.true

pub loop-stake-init : goal.loop-stake-init
loop-stake-init c = summing_none c.args.stakes.now c.if-count.false

pub loop-stake-preserved : goal.loop-stake-preserved
loop-stake-preserved c =
    let l = c.loop-stake in
    let ws = c.args.stakes.now in
    let x : stake_in ws l.stake-index < 2 ^ 64 = (c.type_inv.stakes l.stake-index).fits in
    summing_more ws l.total l.all l.stake-index l.invariant _ _ (omega arith) refl (omega arith) (omega arith)

pub returns-then-all-total : goal.returns-then-all-total
returns-then-all-total c =
    let l = c.loop-stake in
    let ws = c.args.stakes.now in
    summing_bad ws l.total l.all l.stake-index l.invariant (omega arith) c.if-all-total.true

pub returns : goal.returns
returns c =
    let l = c.loop-stake in
    let ws = c.args.stakes.now in
    summing_done ws l.total l.all l.stake-index l.invariant (omega arith) c.if-all-total.false
