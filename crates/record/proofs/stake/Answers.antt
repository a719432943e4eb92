-- The node's word in the head is its stake.
use mathlib.Core.Path.{sym}
use native.Mathlib.Omega.{arith}
use Rattle.record.specs.Layout.{places_in}
use Rattle.record.proofs.Places.{node_placed, node_there}
use Rattle.record.proofs.Reading.{stake_word}
use Rattle.record.proofs.stake.Goals as goal

pub overflow_add-i : goal.overflow_add-i
overflow_add-i c = omega (arith, node_there c.args.rec.now c.args.n.0 c.requires)

pub offset_bounds-rec-i : goal.offset_bounds-rec-i
offset_bounds-rec-i c = omega (arith, node_there c.args.rec.now c.args.n.0 c.requires)

pub bounds-rec-i : goal.bounds-rec-i
bounds-rec-i c = omega (arith, node_there c.args.rec.now c.args.n.0 c.requires)

pub returns : goal.returns
returns c =
    sym (stake_word (places_in c.args.rec.now) c.args.rec.now c.args.n.0 (node_placed c.args.rec.now c.args.n.0 c.requires.node))
