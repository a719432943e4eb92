-- The first word is the number of nodes.
use mathlib.Core.Path.{refl}
use native.Mathlib.Omega.{arith}
use Rattle.record.specs.Layout.{ledger_at}
use Rattle.record.proofs.Places.{words_in_lem}
use Rattle.record.proofs.count.Goals as goal

pub bounds-rec-0 : goal.bounds-rec-0
bounds-rec-0 c = omega (arith, words_in_lem c.args.rec.now c.requires)

pub returns : goal.returns
unfolding ledger_at
returns c = refl
