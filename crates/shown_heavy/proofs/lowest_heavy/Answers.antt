-- The best so far is the lowest of the nodes passed.
use Prim.Native.Nat.{◌-◌}
use native.Mathlib.Omega.{arith}
use Rattle.rulebook.specs.Tools.{lowest}
use Rattle.record.specs.Layout.{ledger_of}
use Rattle.shown_heavy.specs.Heavy.{heavy_past}
use Rattle.shown_heavy.proofs.Laws.{heavy_none}
use Rattle.shown_blocks.proofs.Laws.{next_start, next_more, next_done}
use Rattle.shown_heavy.proofs.lowest_heavy.Goals as goal

pub loop-n-init : goal.loop-n-init
loop-n-init c =
    let a = c.args in
    let l = ledger_of a.rec.now in
    (omega arith, next_start (heavy_past l a.s.0 a.after) (heavy_none l a.s.0 a.after) l a.s.0)

pub load_cell-requires : goal.load_cell-requires
load_cell-requires c = omega (arith, c.requires.table.few, c.count-nodes.ensures)

pub loop-n-preserved : goal.loop-n-preserved
loop-n-preserved c =
    let a = c.args in
    let k = c.loop-n in
    let l = ledger_of a.rec.now in
    (omega arith, next_more (heavy_past l a.s.0 a.after) (heavy_none l a.s.0 a.after) l a.s.0 k.n c.load_cell.result k.best _ c.load_cell.ensures k.invariant.1 c.heavy_named-best.ensures)

pub returns : goal.returns
returns c =
    let a = c.args in
    let k = c.loop-n in
    let l = ledger_of a.rec.now in
    next_done (heavy_past l a.s.0 a.after) (heavy_none l a.s.0 a.after) l a.s.0 k.n _ k.invariant.1 (omega (arith, c.count-nodes.ensures))
