-- Whether a node passed has a vote.
use Prim.Native.Nat.{◌-◌}
use native.Mathlib.Omega.{arith}
use Rattle.shown.specs.Shown.{ledger_in}
use Rattle.shown.proofs.Laws.{votes_start, votes_more, votes_done}
use Rattle.shown.proofs.has_votes.Goals as goal

pub loop-n-init : goal.loop-n-init
loop-n-init c =
    let a = c.args in (omega arith, c.nodes_of-nodes.ensures, votes_start (ledger_in a.rec.now) a.s.0)

pub loop-n-preserved : goal.loop-n-preserved
loop-n-preserved c =
    let a = c.args in
    let k = c.loop-n in
    (omega arith, k.invariant.1, votes_more (ledger_in a.rec.now) a.s.0 k.n c.cell_of.result k.some c.is_blank-blank.result c.cell_of.ensures k.invariant.2 c.is_blank-blank.ensures)

pub returns : goal.returns
returns c =
    let a = c.args in
    let k = c.loop-n in
    votes_done (ledger_in a.rec.now) a.s.0 k.n _ k.invariant.2 (omega (arith, k.invariant.1))
