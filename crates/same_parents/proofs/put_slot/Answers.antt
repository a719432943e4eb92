-- The loop over the first record's places: the lines of those behind it are put.
use mathlib.Core.Path.{◌≡◌, ap}
use native.Mathlib.Omega.{arith}
use lib.ListN.{length}
use Rattle.rulebook.specs.declared.Block.{Block}
use Rattle.rulebook.specs.Ledger.{blocks_at}
use Rattle.record.specs.Layout.{ledger_of}
use Rattle.record.proofs.Reading.{ledger_shaped}
use Rattle.same_parents.specs.Parents.{place_lines}
use Rattle.same_parents.proofs.Laws.{laid_as, first_put, next_put, places_most, slot_put}
use Rattle.same_parents.proofs.put_slot.Goals as goal

pub loop-i-init : goal.loop-i-init
loop-i-init c = (omega arith, first_put _ _ _)

pub load_block-a-requires : goal.load_block-a-requires
load_block-a-requires c =
    record { long = c.requires.here.long; slot = c.requires.here.slot; place = omega (arith, c.loop-i-test.true) }

pub put_place-next-requires : goal.put_place-next-requires
put_place-next-requires c =
    let a = c.args in
    let k = c.loop-i in
    let here = c.loop-i-test.true in
    let many = (ledger_shaped a.two.now).blocks a.s.0 c.requires.there.slot in
    let most = places_most a.s.0 (blocks_at (ledger_of a.one.now) a.s.0) (blocks_at (ledger_of a.two.now) a.s.0) k.i many in
    record { slot = c.requires.there; room = omega (arith, here, k.invariant.1.many, most, c.requires.room) }

pub loop-i-preserved : goal.loop-i-preserved
loop-i-preserved c =
    let a = c.args in
    let k = c.loop-i in
    let read = c.load_block-a.ensures in (
      omega (arith, c.loop-i-test.true),
      next_put _ k.i k.invariant.1
          (laid_as (ap (λ (b : Block). place_lines a.s.0 b (blocks_at (ledger_of a.two.now) a.s.0)) read) c.put_place-next.ensures),
    )

pub returns : goal.returns
returns c =
    let a = c.args in
    let k = c.loop-i in
    let many = (ledger_shaped a.one.now).blocks a.s.0 c.requires.here.slot in
    let e : k.i ≡ length (blocks_at (ledger_of a.one.now) a.s.0) = omega (arith, many, c.loop-i-test.false, k.invariant.0) in
    slot_put (ledger_of a.one.now) (ledger_of a.two.now) a.s.0 k.i e k.invariant.1
