-- `weigh_word` answers `weighed` of its 64 places: it steps from set bit to set bit. Assumes nothing.
use Rattle.std.proofs.Common.{◌-◌, arith}
use lib.Bits.{and_le_r}
use Rattle.stakes.proofs.Stepping.{low_lt, stepped_none, stepped_place, stepped_more, stepped_done}
use Rattle.stakes.proofs.weigh_word.Goals as goal

pub loop-left-init : goal.loop-left-init
loop-left-init c = stepped_none c.args.stakes.now c.args.word c.requires c.ranges.word.fits

pub overflow_cast-n : goal.overflow_cast-n
overflow_cast-n c = let l = c.loop-left in omega (arith, low_lt 64 64 l.left (omega arith) l.invariant.fits)

pub overflow_add-signers : goal.overflow_add-signers
overflow_add-signers c =
    let l = c.loop-left in
    let k = stepped_more c.args.stakes.now c.args.word l.signers l.weight l.left l.invariant (omega arith) in
    omega (arith, k.count, k.few)

pub offset_bounds-stakes-n : goal.offset_bounds-stakes-n
offset_bounds-stakes-n c = let l = c.loop-left in omega (arith, low_lt 64 64 l.left (omega arith) l.invariant.fits)

pub bounds-stakes-n : goal.bounds-stakes-n
bounds-stakes-n c =
    let l = c.loop-left in
    stepped_place c.args.stakes.now c.args.word l.signers l.weight l.left l.invariant (omega arith)

pub overflow_add-weight : goal.overflow_add-weight
overflow_add-weight c =
    let l = c.loop-left in
    let k = stepped_more c.args.stakes.now c.args.word l.signers l.weight l.left l.invariant (omega arith) in
    omega (arith, k.sum, k.light)

pub loop-left-smaller : goal.loop-left-smaller
loop-left-smaller c = let l = c.loop-left in omega (arith, and_le_r l.left (l.left - 1))

pub loop-left-preserved : goal.loop-left-preserved
loop-left-preserved c =
    let l = c.loop-left in
    stepped_more c.args.stakes.now c.args.word l.signers l.weight l.left l.invariant (omega arith)

pub returns : goal.returns
returns c =
    let l = c.loop-left in
    stepped_done c.args.stakes.now c.args.word l.signers l.weight l.left l.invariant (omega arith)
