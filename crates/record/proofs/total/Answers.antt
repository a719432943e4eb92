-- The second word is the total.
use mathlib.Core.Path.{refl}
use native.Mathlib.Omega.{arith}
use Rattle.record.specs.Layout.{ledger_at}
use Rattle.record.proofs.Places.{words_in_lem}
use Rattle.record.proofs.total.Goals as goal

pub bounds-rec-1 : goal.bounds-rec-1
bounds-rec-1 c = omega (arith, words_in_lem c.args.rec.now c.requires)

pub returns : goal.returns
unfolding ledger_at
returns c = refl
