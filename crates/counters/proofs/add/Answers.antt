-- No name, its own counter, or the least counter once it is empty.
use native.Mathlib.Omega.{arith}
use mathlib.Core.Path.{refl}
use Rattle.counters.proofs.Steps.{weight_room, add_none, add_own, add_off, add_put}
use Rattle.counters.proofs.add.Goals as goal

pub returns-then-x-eq0 : goal.returns-then-x-eq0
returns-then-x-eq0 c = add_none c.args.x c.args.w c.args.counters.now c.if-x-eq0.true

pub overflow_add-counters : goal.overflow_add-counters
overflow_add-counters c = omega (arith, weight_room c.args.counters.now c.args.w c.in-Some.own c.in-Some.ensures.0 c.requires)

pub returns-in-Some : goal.returns-in-Some
returns-in-Some c = add_own c.args.x c.args.w c.args.counters.now c.in-Some.own _ c.in-Some.ensures.0 c.told-counters c.in-Some.ensures.1 refl refl

pub returns-then-e-w : goal.returns-then-e-w
returns-then-e-w c =
    add_put c.args.x c.args.w c.args.counters.now c.in_default.ensures _ _ c.lower_all.ensures c.least_of-p.result _ c.least_of-p.ensures.few c.lower_all.array_long (omega arith) (omega arith) (omega arith) refl refl

pub returns-else-e-w : goal.returns-else-e-w
returns-else-e-w c =
    add_off c.args.x c.args.w c.args.counters.now c.in_default.ensures _ _ c.lower_all.ensures (omega arith)
