-- The loop over the slots: the lines of those behind it are put.
use mathlib.Core.Path.{◌≡◌, ap}
use Prim.Native.Nat.{suc, ◌+◌}
use native.Mathlib.Omega.{arith}
use Rattle.record.specs.Layout.{ledger_of}
use Rattle.inquest.specs.Lists.{slot_lacks, lacking}
use Rattle.inquest_lines.proofs.Laws.{laid_as, first_put, next_put, next_last}
use Rattle.vouching.proofs.Laws.{slots_most, compared}
use Rattle.vouching.proofs.put_slots.Goals as goal

pub loop-i-init : goal.loop-i-init
loop-i-init c = (omega arith, first_put _ _ _)

pub put_slot-next-requires : goal.put_slot-next-requires
put_slot-next-requires c =
    let k = c.loop-i in
    let here = c.loop-i-test.true in
    let most = slots_most c.args.one.now (ledger_of c.args.two.now) k.i (omega (arith, here)) in
    compared c.requires _ _ (omega (arith, here)) (omega (arith, here, k.invariant.1.many, most))

pub loop-i-preserved : goal.loop-i-preserved
loop-i-preserved c =
    let a = c.args in
    let k = c.loop-i in
    let e : k.i + 1 ≡ suc k.i = omega arith in
    (omega (arith, c.loop-i-test.true), next_put _ k.i k.invariant.1 (laid_as (ap (slot_lacks (ledger_of a.one.now) (ledger_of a.two.now)) e) c.put_slot-next.ensures))

pub returns : goal.returns
unfolding lacking
returns c =
    next_last _ c.loop-i.i c.loop-i.invariant.1 _ (omega (arith, c.loop-i-test.false, c.loop-i.invariant.0))
