-- The leader, then the places for certificates from the last to the first: the lowest of those behind the loop is kept.
use Prim.Native.Nat.{ℕ, ◌-◌}
use native.Mathlib.Omega.{arith}
use Rattle.record.specs.Layout.{ledger_of}
use Rattle.record.proofs.Reading.{ledger_shaped}
use Rattle.pool.proofs.CardLaws.{card_is}
use Rattle.candidates.proofs.CardLaws.{leader_is}
use Rattle.candidates.proofs.NewcomerLaws.{newcomer_start, newcomer_more, newcomer_end}
use Rattle.candidates.proofs.newcomer.Goals as goal

pub loop-n-init : goal.loop-n-init
loop-n-init c =
    let ws = c.args.rec.now in
    let l = ledger_of ws in
    let s : ℕ = c.args.s.0 in
    newcomer_start l s 13 _ _ ((ledger_shaped ws).certificates s c.requires.weighing.slot) (leader_is l s c.requires.weighing.table _ (card_is c.requires _ c.load_card-card.ensures)) c.lower_newcomer-best.ensures

pub block_at-b-requires : goal.block_at-b-requires
block_at-b-requires c =
    let a = c.requires.weighing in record { long = a.long; slot = a.slot; place = omega arith }

pub lower_newcomer-best-requires-in-loop-n : goal.lower_newcomer-best-requires-in-loop-n
lower_newcomer-best-requires-in-loop-n c = c.requires

pub loop-n-preserved : goal.loop-n-preserved
loop-n-preserved c =
    let ws = c.args.rec.now in
    let s : ℕ = c.args.s.0 in
    let k = c.loop-n in
    newcomer_more (ledger_of ws) s (k.n - 1) k.n _ k.best _ (omega arith) (omega (arith, (ledger_shaped ws).certificates s c.requires.weighing.slot)) c.block_at-b.ensures k.invariant c.lower_newcomer-best-in-loop-n.ensures

pub returns : goal.returns
returns c =
    let k = c.loop-n in
    newcomer_end (ledger_of c.args.rec.now) c.args.s.0 c.requires.weighing.table k.n k.best (omega arith) k.invariant
