-- Cleared, given its head, and a stake at a time: the loop's words hold the fresh ledger with the stakes behind it.
use mathlib.Core.Path.{refl, ◌∙◌}
use native.Mathlib.Omega.{arith}
use lib.ListN.{length}
use Rattle.rulebook.specs.Weights.{places_for}
use Rattle.rule_laws.proofs.PlaceLaws.{nodes_placed}
use Rattle.record.proofs.Places.{sized_long, sized_places}
use Rattle.starts.proofs.Starts.{stakes_begin, stakes_more, stakes_end}
use Rattle.starts.proofs.set_up.Goals as goal

pub set_head-requires : goal.set_head-requires
set_head-requires c = sized_long _ _ (c.clear.auto.rec ∙ c.requires.long)

pub loop-n-init : goal.loop-n-init
loop-n-init c =
    let a = c.args in
    let cleared = c.clear.auto.rec ∙ c.requires.long in
    (omega arith, refl, c.set_head.auto.rec ∙ cleared, stakes_begin _ _ a.stakes.now (length a.rec.now) a.total.0 a.own.0 a.genesis c.clear.ensures cleared c.set_head.ensures)

pub set_stake-requires : goal.set_stake-requires
set_stake-requires c =
    let p = places_for (length c.args.stakes.now) in
    record { long = sized_long c.loop-n.rec p c.loop-n.invariant.2; node = omega (arith, sized_places c.loop-n.rec p c.loop-n.invariant.2, nodes_placed (length c.args.stakes.now) c.requires.few) }

pub loop-n-preserved : goal.loop-n-preserved
loop-n-preserved c =
    (omega arith, c.loop-n.invariant.1, c.set_stake.auto.rec ∙ c.loop-n.invariant.2, stakes_more _ _ c.args.stakes.now c.loop-n.n _ _ _ c.loop-n.invariant.3 c.set_stake.ensures (omega arith) c.requires.few)

pub returns : goal.returns
returns c =
    stakes_end _ _ _ c.args.stakes.now c.loop-n.n _ _ _ c.loop-n.invariant.3 c.set_head.ensures (omega arith) c.requires.sum
