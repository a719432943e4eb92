-- The fourth word is genesis's number.
use mathlib.Core.Path.{refl}
use native.Mathlib.Omega.{arith}
use Rattle.record.specs.Layout.{ledger_at}
use Rattle.record.proofs.Places.{words_in_lem}
use Rattle.record.proofs.genesis.Goals as goal

pub bounds-rec-3 : goal.bounds-rec-3
bounds-rec-3 c = omega (arith, words_in_lem c.args.rec.now c.requires)

pub returns : goal.returns
unfolding ledger_at
returns c = refl
