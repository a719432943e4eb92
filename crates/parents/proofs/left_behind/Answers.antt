-- The node's stake stays or is taken off.
use native.Mathlib.Omega.{arith}
use Rattle.parents.proofs.FewLaws.{left_named, left_room, left_other}
use Rattle.parents.proofs.left_behind.Goals as goal

pub load_cell-requires : goal.load_cell-requires
load_cell-requires c =
    let p = c.requires in
    record { long = p.weighing.long; slot = p.weighing.slot; node = omega (arith, p.node, p.weighing.table.few) }

pub returns-then-names_some : goal.returns-then-names_some
returns-then-names_some c =
    let p = c.requires in
    left_named p.weighing.table c.args.p.0 c.args.n.0 c.args.left.0 p.begun p.node _ _ c.load_cell.ensures c.names_some.ensures c.if-names_some.true

pub stake-w-requires : goal.stake-w-requires
stake-w-requires c =
    let p = c.requires in
    record { long = p.weighing.long; node = omega (arith, p.node, p.weighing.table.few) }

pub overflow_sub-result : goal.overflow_sub-result
overflow_sub-result c =
    let p = c.requires in
    left_room p.weighing.table c.args.p.0 c.args.n.0 c.args.left.0 p.begun p.node _ _ c.load_cell.ensures c.names_some.ensures _ c.stake-w.ensures

pub returns : goal.returns
returns c =
    let p = c.requires in
    left_other p.weighing.table c.args.p.0 c.args.n.0 c.args.left.0 p.begun p.node _ _ c.load_cell.ensures c.names_some.ensures _ c.stake-w.ensures c.if-names_some.false
