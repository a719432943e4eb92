-- The best so far is the lowest of the nodes passed.
use Prim.Native.Nat.{◌-◌}
use native.Mathlib.Omega.{arith}
use lib.Dec.{ltb}
use Rattle.rulebook.specs.Tools.{lowest}
use Rattle.shown.specs.Shown.{ledger_in}
use Rattle.shown_blocks.specs.Blocks.{block_after}
use Rattle.shown_blocks.proofs.Laws.{after_none, next_start, next_more, next_done}
use Rattle.shown_blocks.proofs.block_after.Goals as goal

pub loop-n-init : goal.loop-n-init
loop-n-init c =
    let a = c.args in (omega arith, c.nodes_of-nodes.ensures, next_start (ltb a.after) (after_none a.after) (ledger_in a.rec.now) a.s.0)

pub loop-n-preserved : goal.loop-n-preserved
loop-n-preserved c =
    let a = c.args in
    let k = c.loop-n in
    (omega arith, k.invariant.1, next_more (ltb a.after) (after_none a.after) (ledger_in a.rec.now) a.s.0 k.n c.cell_of.result k.best _ c.cell_of.ensures k.invariant.2 c.named_next-best.ensures)

pub returns : goal.returns
unfolding block_after
returns c =
    let a = c.args in
    let k = c.loop-n in
    next_done (ltb a.after) (after_none a.after) (ledger_in a.rec.now) a.s.0 k.n _ k.invariant.2 (omega (arith, k.invariant.1))
