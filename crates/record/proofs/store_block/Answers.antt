-- Three stores put the block into its place, and nothing else changes.
use native.Mathlib.Numerals.{towards_suc}
use native.Mathlib.Omega.{arith}
use lib.ListN.{length-set}
use Rattle.record.proofs.Replacing.{block_stored}
use Rattle.record.proofs.store_block.Goals as goal

pub bounds-rec-i-2 : goal.bounds-rec-i-2
bounds-rec-i-2 c = simp length-set (omega arith)

pub bounds-rec-i-3 : goal.bounds-rec-i-3
bounds-rec-i-3 c = simp length-set (omega arith)

pub returns : goal.returns
returns c =
    simp towards_suc (block_stored c.before.args.rec.now c.before.args.s.0 c.before.args.n _ c.before.args.b c.before.requires c.block_start-i.ensures.is)
