-- The loop over the places: the lines of those behind it are put.
use mathlib.Core.Path.{◌≡◌}
use native.Mathlib.Omega.{arith}
use lib.ListN.{length}
use Rattle.rulebook.specs.Ledger.{certificates_at}
use Rattle.record.specs.Layout.{ledger_of}
use Rattle.record.proofs.Reading.{ledger_shaped}
use Rattle.inquest_lines.proofs.Laws.{first_put, next_put}
use Rattle.vouching.proofs.Laws.{places_most, kept_put}
use Rattle.vouching.proofs.put_places.Goals as goal

pub loop-n-init : goal.loop-n-init
loop-n-init c = (omega arith, first_put _ _ _)

pub put_place-next-requires : goal.put_place-next-requires
put_place-next-requires c =
    let a = c.args in
    let k = c.loop-n in
    let here = c.loop-n-test.true in
    let most = places_most a.s.0 a.m.0 a.d (certificates_at (ledger_of a.rec.now) a.s.0) k.n in
    record {
      place = record { long = c.requires.slot.long; slot = c.requires.slot.slot; place = omega (arith, here) };
      room = omega (arith, here, k.invariant.1.many, most, c.requires.room);
    }

pub loop-n-preserved : goal.loop-n-preserved
loop-n-preserved c =
    let k = c.loop-n in
    (omega (arith, c.loop-n-test.true), next_put _ k.n k.invariant.1 c.put_place-next.ensures)

pub returns : goal.returns
returns c =
    let a = c.args in
    let k = c.loop-n in
    let many = (ledger_shaped a.rec.now).certificates a.s.0 c.requires.slot.slot in
    let e : k.n ≡ length (certificates_at (ledger_of a.rec.now) a.s.0) = omega (arith, many, c.loop-n-test.false, k.invariant.0) in
    kept_put a.s.0 a.m.0 a.d (certificates_at (ledger_of a.rec.now) a.s.0) k.n e k.invariant.1
