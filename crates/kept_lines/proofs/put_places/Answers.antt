-- The loop over the places: the lines of those behind it are put.
use native.Mathlib.Omega.{arith}
use Rattle.record.specs.Layout.{ledger_of}
use Rattle.kept_lines.proofs.Laws.{first_place_lem, next_place, last_place, told_most}
use Rattle.kept_lines.proofs.put_places.Goals as goal

pub loop-n-init : goal.loop-n-init
loop-n-init c = (omega arith, first_place_lem _ _ _ _)

pub put_place-next-requires : goal.put_place-next-requires
put_place-next-requires c =
    let a = c.args in
    let k = c.loop-n in
    let here = c.loop-n-test.true in
    record {
      telling = record { judging = c.requires; place = omega (arith, here) };
      room = omega (arith, here, k.invariant.1.many, told_most (ledger_of a.rec.now) a.s.0 k.n);
    }

pub loop-n-preserved : goal.loop-n-preserved
loop-n-preserved c =
    let k = c.loop-n in
    (omega (arith, c.loop-n-test.true), next_place _ _ _ k.n k.invariant.1 c.put_place-next.ensures)

pub returns : goal.returns
returns c =
    let k = c.loop-n in
    last_place _ _ _ k.n (omega (arith, c.loop-n-test.false, k.invariant.0)) k.invariant.1
