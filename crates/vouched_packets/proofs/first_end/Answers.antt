-- By what was found at the front.
use Rattle.rulebook.specs.Packets.{certificate_at}
use Rattle.vouched_packets.proofs.Laws.{end_failed, end_whole}
use Rattle.vouched_packets.proofs.first_end.Goals as goal

pub returns-in-Ok : goal.returns-in-Ok
returns-in-Ok c =
    let r = c.read_certificate in
    let p = c.args.packet.now in
    end_whole p (certificate_at p 0) _ r.new.a r.new.b r.ensures _ _ c.in-Ok.is

pub returns-in-Err : goal.returns-in-Err
returns-in-Err c =
    let r = c.read_certificate in
    let p = c.args.packet.now in
    end_failed p (certificate_at p 0) _ r.new.a r.new.b r.ensures _ c.in-Err.is
