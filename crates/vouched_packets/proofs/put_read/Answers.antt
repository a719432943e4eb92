-- The signer, by what was read.
use mathlib.Core.Path.{refl}
use Rattle.record.specs.Layout.{ledger_of}
use Rattle.vouched_packets.proofs.Laws.{read_put}
use Rattle.vouched_packets.proofs.put_read.Goals as goal

pub returns : goal.returns
returns c =
    let a = c.args in
    read_put (ledger_of a.rec.now) a.c a.a.now a.b.now _ _ c.count.ensures c.kind_in.ensures refl c.own-node.ensures refl c.names.ensures c.names-2.ensures c.cell_of.ensures c.put_signer.ensures
