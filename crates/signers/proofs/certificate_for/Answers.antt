-- A heading and two masks make the certificate.
use native.Mathlib.Omega.{arith}
use Rattle.record.specs.Layout.{ledger_of}
use Rattle.signers.proofs.Signers.{named_all}
use Rattle.signers.proofs.certificate_for.Goals as goal

pub signers_in-requires : goal.signers_in-requires
signers_in-requires c =
    let k = c.requires in
    let n = c.count-nodes.ensures in
    (record { long = k.long; slot = k.slot; few = omega (arith, n, k.few); placed = omega (arith, n, k.placed) }, record { long = omega (arith, n, k.wide_a.long); few = k.wide_a.few })

pub signers_in-requires-2 : goal.signers_in-requires-2
signers_in-requires-2 c =
    let k = c.requires in
    let n = c.count-nodes.ensures in
    (record { long = k.long; slot = k.slot; few = omega (arith, n, k.few); placed = omega (arith, n, k.placed) }, record { long = omega (arith, n, k.wide_b.long); few = k.wide_b.few })

pub returns : goal.returns
returns c =
    let a = c.args in
    named_all (ledger_of a.rec.now) a.kind a.s.0 a.block c.count-nodes.ensures c.number_in.ensures c.signers_in.ensures c.signers_in-2.ensures
