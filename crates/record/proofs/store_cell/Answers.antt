-- Seven stores at the cell's place put the cell into the ledger, and nothing else changes.
use native.Mathlib.Numerals.{towards_suc}
use native.Mathlib.Omega.{arith}
use lib.ListN.{length-set}
use Rattle.record.proofs.Replacing.{cell_stored}
use Rattle.record.proofs.store_cell.Goals as goal

pub bounds-rec-i-2 : goal.bounds-rec-i-2
bounds-rec-i-2 c = simp length-set (omega arith)

pub bounds-rec-i-3 : goal.bounds-rec-i-3
bounds-rec-i-3 c = simp length-set (omega arith)

pub bounds-rec-i-4 : goal.bounds-rec-i-4
bounds-rec-i-4 c = simp length-set (omega arith)

pub bounds-rec-i-5 : goal.bounds-rec-i-5
bounds-rec-i-5 c = simp length-set (omega arith)

pub bounds-rec-i-6 : goal.bounds-rec-i-6
bounds-rec-i-6 c = simp length-set (omega arith)

pub bounds-rec-i-7 : goal.bounds-rec-i-7
bounds-rec-i-7 c = simp length-set (omega arith)

pub returns : goal.returns
returns c =
    simp towards_suc (cell_stored c.before.args.rec.now c.before.args.s.0 c.before.args.n.0 _ c.before.args.c c.before.requires c.cell_start-i.ensures.is)
