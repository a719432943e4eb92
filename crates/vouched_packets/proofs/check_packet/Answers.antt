-- A longer packet, or one certificate.
use mathlib.Core.Path.{◌∙◌}
use Rattle.vouched_packets.proofs.Laws.{ends_before, ends_there, check_longer, check_single}
use Rattle.vouched_packets.proofs.check_packet.Goals as goal

pub returns-then-first_end-packet : goal.returns-then-first_end-packet
returns-then-first_end-packet c =
    let a = c.args in
    c.check_proof.ensures ∙ check_longer a.stakes.now a.packet.now (ends_before _ _ _ c.first_end.ensures c.if-first_end-packet.true)

pub returns : goal.returns
returns c =
    let a = c.args in
    c.check_certificate.ensures ∙ check_single a.stakes.now a.packet.now (ends_there _ _ _ c.first_end.ensures c.if-first_end-packet.false)
