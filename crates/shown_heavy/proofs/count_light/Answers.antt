-- The sum over the nodes passed, four of each at most.
use mathlib.Core.Path.{◌∙◌, ap}
use Prim.Native.Nat.{◌-◌}
use native.Mathlib.Omega.{arith}
use Rattle.record.specs.Layout.{ledger_of}
use Rattle.shown_heavy.specs.Heavy.{light_to}
use Rattle.shown_heavy.proofs.Laws.{light_few, light_start, light_more, light_room}
use Rattle.shown_heavy.proofs.count_light.Goals as goal

pub count-nodes-requires : goal.count-nodes-requires
count-nodes-requires c = c.requires.weighing.long

pub loop-n-init : goal.loop-n-init
loop-n-init c = let a = c.args in (omega arith, c.count-nodes.ensures, light_start (ledger_of a.rec.now) a.s.0)

pub load_cell-c-requires : goal.load_cell-c-requires
load_cell-c-requires c =
    record { long = c.requires.weighing.long; slot = c.requires.weighing.slot; node = omega (arith, c.requires.weighing.table.few, c.count-nodes.ensures) }

pub light_names-sum-requires : goal.light_names-sum-requires
light_names-sum-requires c =
    record { weighing = c.requires.weighing; node = omega (arith, c.requires.weighing.table.few, c.count-nodes.ensures, c.loop-n-test.true) }

pub overflow_add-sum : goal.overflow_add-sum
overflow_add-sum c =
    let k = c.loop-n in
    let l = ledger_of c.args.rec.now in
    omega (arith, light_room l c.args.s.0 k.n, light_few l c.args.s.0 k.n c.load_cell-c.result, c.requires.few, k.invariant.1, k.invariant.2, c.light_names-sum.ensures)

pub loop-n-preserved : goal.loop-n-preserved
loop-n-preserved c =
    let a = c.args in
    let k = c.loop-n in
    (omega arith, k.invariant.1, light_more (ledger_of a.rec.now) a.s.0 k.n c.load_cell-c.result k.sum _ c.load_cell-c.ensures k.invariant.2 c.light_names-sum.ensures)

pub returns : goal.returns
returns c =
    let a = c.args in
    let k = c.loop-n in
    k.invariant.2 ∙ ap (light_to (ledger_of a.rec.now) a.s.0) (omega (arith, k.invariant.1))
