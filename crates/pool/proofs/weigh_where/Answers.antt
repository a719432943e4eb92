-- One node a turn; nothing wraps, since all stakes together are light.
use mathlib.Core.Path.{refl, sym, ◌∙◌}
use native.Mathlib.Omega.{arith}
use mathlib.Core.Bool.{true, false}
use Rattle.rulebook.specs.Weights.{stake_in}
use Rattle.rule_laws.proofs.ToolLaws.{part_on, part_off}
use Rattle.record.specs.Layout.{ledger_of}
use Rattle.pool.proofs.HeldLaws.{so_begun, so_more, so_room}
use Rattle.pool.proofs.weigh_where.Goals as goal
use Rattle.pool.proofs.weigh_where.Goals.{then-holds, else-holds}

pub loop-n-init : goal.loop-n-init
loop-n-init g c = (omega arith, so_begun (ledger_of c.args.rec.now) _)

pub overflow_add-sum : goal.overflow_add-sum
overflow_add-sum g c =
    let l = ledger_of c.args.rec.now in
    omega (arith, so_room l _ c.requires.table c.loop-n.n c.loop-n.sum (omega (arith, c.loop-n-test.true, c.count-n-end.ensures)) c.loop-n.invariant.1, c.stake-sum.ensures)

pub loop-n-preserved : goal.loop-n-preserved
loop-n-preserved g c =
    let l = ledger_of c.args.rec.now in
    let k = c.loop-n in
    elim c.if-holds.branch [
      | then-holds w ↦ (omega (arith, c.loop-n-test.true, c.count-n-end.ensures), so_more l _ k.n k.sum _ true (λ test t. sym w.if-holds.true ∙ t _ _ c.holds.ensures) (omega (arith, w.sum-is, w.stake-sum.ensures, part_on true (stake_in l.stakes k.n) refl)) k.invariant.1)
      | else-holds w ↦ (omega (arith, c.loop-n-test.true, c.count-n-end.ensures), so_more l _ k.n k.sum _ false (λ test t. sym w.if-holds.false ∙ t _ _ c.holds.ensures) (omega (arith, w.sum-is, part_off false (stake_in l.stakes k.n) refl)) k.invariant.1)
    ]
