-- The first certificate, then what follows it.
use native.Mathlib.Omega.{arith}
use Rattle.rulebook.specs.Packets.{certificate_at}
use Rattle.record.specs.Layout.{ledger_of}
use Rattle.vouched_packets.proofs.Laws.{found_most, packet_put}
use Rattle.vouched_packets.proofs.put_packet.Goals as goal

pub put_found-requires : goal.put_found-requires
put_found-requires c =
    let most = found_most (ledger_of c.args.rec.now) (certificate_at c.args.packet.now 0) in
    record { long = c.requires; room = omega (arith, most, c.put_found-next.ensures.many) }

pub returns : goal.returns
returns c =
    let a = c.args in
    packet_put (ledger_of a.rec.now) a.packet.now c.first_end.ensures c.put_found-next.ensures c.put_found.ensures
