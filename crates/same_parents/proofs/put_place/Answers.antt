-- The loop over the second record's places: the lines of those behind it are put.
use mathlib.Core.Path.{◌≡◌, ap}
use native.Mathlib.Omega.{arith}
use lib.ListN.{length}
use Rattle.rulebook.specs.declared.Block.{Block}
use Rattle.rulebook.specs.Ledger.{blocks_at}
use Rattle.record.specs.Layout.{ledger_of}
use Rattle.record.proofs.Reading.{ledger_shaped}
use Rattle.same_parents.specs.Parents.{pair_lines}
use Rattle.same_parents.proofs.Laws.{laid_as, first_put, next_put, pairs_most, place_put}
use Rattle.same_parents.proofs.put_place.Goals as goal

pub loop-j-init : goal.loop-j-init
loop-j-init c = (omega arith, first_put _ _ _)

pub load_block-b-requires : goal.load_block-b-requires
load_block-b-requires c =
    record { long = c.requires.slot.long; slot = c.requires.slot.slot; place = omega (arith, c.loop-j-test.true) }

pub put_pair-next-requires : goal.put_pair-next-requires
put_pair-next-requires c =
    let a = c.args in
    let k = c.loop-j in
    let here = c.loop-j-test.true in
    let most = pairs_most a.s.0 a.a (blocks_at (ledger_of a.two.now) a.s.0) k.j in
    omega (arith, here, k.invariant.1.many, most, c.requires.room)

pub loop-j-preserved : goal.loop-j-preserved
loop-j-preserved c =
    let a = c.args in
    let k = c.loop-j in
    let read = c.load_block-b.ensures in (
      omega (arith, c.loop-j-test.true),
      next_put _ k.j k.invariant.1 (laid_as (ap (λ (b : Block). pair_lines a.s.0 a.a b) read) c.put_pair-next.ensures),
    )

pub returns : goal.returns
returns c =
    let a = c.args in
    let k = c.loop-j in
    let bs = blocks_at (ledger_of a.two.now) a.s.0 in
    let many = (ledger_shaped a.two.now).blocks a.s.0 c.requires.slot.slot in
    let e : k.j ≡ length bs = omega (arith, many, c.loop-j-test.false, k.invariant.0) in
    place_put a.s.0 a.a bs k.j e k.invariant.1
