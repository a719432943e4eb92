-- The first four words, and nothing else changes.
use native.Mathlib.Omega.{arith}
use lib.ListN.{length-set}
use Rattle.record.proofs.Places.{words_in_lem}
use Rattle.record.proofs.Setup.{head_stored}
use Rattle.record.proofs.set_head.Goals as goal

pub bounds-rec-0 : goal.bounds-rec-0
bounds-rec-0 c = omega (arith, words_in_lem c.args.rec.now c.requires)

pub bounds-rec-1 : goal.bounds-rec-1
bounds-rec-1 c = simp length-set (omega (arith, words_in_lem c.args.rec.now c.requires))

pub bounds-rec-2 : goal.bounds-rec-2
bounds-rec-2 c = simp length-set (omega (arith, words_in_lem c.args.rec.now c.requires))

pub bounds-rec-3 : goal.bounds-rec-3
bounds-rec-3 c = simp length-set (omega (arith, words_in_lem c.args.rec.now c.requires))

pub returns : goal.returns
returns c = let a = c.args in head_stored a.rec.now a.count a.total.0 a.own.0 a.genesis c.requires
