-- The node's word among the stakes, and nothing else changes.
use native.Mathlib.Omega.{arith}
use Rattle.record.proofs.Places.{node_there}
use Rattle.record.proofs.Setup.{stake_put}
use Rattle.record.proofs.set_stake.Goals as goal

pub overflow_add-i : goal.overflow_add-i
overflow_add-i c = omega (arith, node_there c.args.rec.now c.args.n.0 c.requires)

pub offset_bounds-rec-i : goal.offset_bounds-rec-i
offset_bounds-rec-i c = omega (arith, node_there c.args.rec.now c.args.n.0 c.requires)

pub bounds-rec-i : goal.bounds-rec-i
bounds-rec-i c = omega (arith, node_there c.args.rec.now c.args.n.0 c.requires)

pub returns : goal.returns
returns c = stake_put c.args.rec.now c.args.n.0 c.args.w.0 c.requires
