-- The loop sums the stakes of those who count, one node a turn.
use mathlib.Core.Path.{sym, ◌∙◌}
use native.Mathlib.Omega.{arith}
use Rattle.record.specs.Layout.{ledger_of}
use Rattle.looks.proofs.Beside.{beside_none, beside_on, beside_off, beside_room, beside_done}
use Rattle.looks.proofs.named_beside.Goals as goal
use Rattle.looks.proofs.named_beside.Goals.{then-is_beside, else-is_beside}

pub loop-n-init : goal.loop-n-init
loop-n-init c = let a = c.args in (omega arith, sym (beside_none (ledger_of a.rec.now) a.s.0))

pub is_beside-requires : goal.is_beside-requires
is_beside-requires c = (c.requires, omega (arith, c.count-nodes.ensures, c.loop-n-test.true))

pub stake-w-requires : goal.stake-w-requires
stake-w-requires c = omega (arith, c.requires.table.few, c.count-nodes.ensures)

pub overflow_add-sum : goal.overflow_add-sum
overflow_add-sum c =
    omega (arith, beside_room (ledger_of c.args.rec.now) c.args.s.0 c.requires.table c.loop-n.n (omega (arith, c.count-nodes.ensures, c.loop-n-test.true)), c.stake-w.ensures, c.requires.table.light)

pub loop-n-preserved : goal.loop-n-preserved
loop-n-preserved c =
    let a = c.args in
    let l = ledger_of a.rec.now in
    let n = c.loop-n.n in
    let here = c.is_beside.ensures in
    elim c.if-is_beside.branch [
      | then-is_beside w ↦ (omega arith, omega (arith, beside_on l a.s.0 n _ here w.if-is_beside.true, w.stake-w.ensures))
      | else-is_beside w ↦ (omega arith, omega (arith, beside_off l a.s.0 n _ here w.if-is_beside.false))
    ]

pub returns : goal.returns
returns c =
    let a = c.args in
    c.loop-n.invariant.1 ∙ beside_done (ledger_of a.rec.now) a.s.0 c.loop-n.n (omega (arith, c.count-nodes.ensures))
