-- The loop over the slots: the lines of those behind it are put.
use mathlib.Core.Path.{◌≡◌, ap}
use Prim.Native.Nat.{suc, ◌+◌}
use native.Mathlib.Omega.{arith}
use Rattle.record.specs.Layout.{ledger_of}
use Rattle.inquest.specs.Lists.{slot_fallen, fallen}
use Rattle.inquest_lines.proofs.Laws.{laid_as, first_put, next_put, next_last}
use Rattle.standing.proofs.Laws.{judging, slots_most}
use Rattle.standing.proofs.put_slots.Goals as goal

pub loop-i-init : goal.loop-i-init
loop-i-init c = (omega arith, first_put _ _ _)

pub put_slot-next-requires : goal.put_slot-next-requires
put_slot-next-requires c =
    let here = c.loop-i in
    let ws = c.args.rec.now in
    let t = c.loop-i-test.true in
    record { judging = judging ws (here.i + 1) c.requires (omega arith) (omega (arith, t)); room = omega (arith, t, here.invariant.1.many, slots_most (ledger_of ws) here.i) }

pub loop-i-preserved : goal.loop-i-preserved
loop-i-preserved c =
    let put = c.put_slot-next in
    let here = c.loop-i in
    let ws = c.args.rec.now in
    let e : here.i + 1 ≡ suc here.i = omega arith in
    (omega (arith, c.loop-i-test.true), next_put _ here.i here.invariant.1 (laid_as (ap (slot_fallen (ledger_of ws)) e) put.ensures))

pub returns : goal.returns
unfolding fallen
returns c =
    let here = c.loop-i in next_last _ here.i here.invariant.1 _ (omega (arith, c.loop-i-test.false, here.invariant.0))
