-- By what was found at the place.
use mathlib.Core.Path.{sym}
use lib.Seq.{length-take-le}
use Rattle.rulebook.specs.Packets.{certificate_at}
use Rattle.certificate_numbers.proofs.Whole.{lent_enough}
use Rattle.record.specs.Layout.{ledger_of}
use Rattle.vouched_packets.proofs.Laws.{found_failed, found_put}
use Rattle.vouched_packets.proofs.put_found.Goals as goal

pub slice_bounds-a-end : goal.slice_bounds-a-end
slice_bounds-a-end c =
    lent_enough c.read_certificate.new.a _ _ c.read_certificate.auto.a c.words_in-words.ensures

pub slice_bounds-put_read-end : goal.slice_bounds-put_read-end
slice_bounds-put_read-end c =
    sym (length-take-le _ c.read_certificate.new.a (lent_enough c.read_certificate.new.a _ _ c.read_certificate.auto.a c.words_in-words.ensures))

pub slice_bounds-b-end : goal.slice_bounds-b-end
slice_bounds-b-end c =
    lent_enough c.read_certificate.new.b _ _ c.read_certificate.auto.b c.words_in-words.ensures

pub slice_bounds-put_read-end-in-Ok : goal.slice_bounds-put_read-end-in-Ok
slice_bounds-put_read-end-in-Ok c =
    sym (length-take-le _ c.read_certificate.new.b (lent_enough c.read_certificate.new.b _ _ c.read_certificate.auto.b c.words_in-words.ensures))

pub returns-in-Err : goal.returns-in-Err
returns-in-Err c =
    let r = c.read_certificate in
    let a = c.args in
    found_failed (ledger_of a.rec.now) (certificate_at a.packet.now a.from) _ r.new.a r.new.b r.ensures _ c.in-Err.is

pub returns-in-Ok : goal.returns-in-Ok
returns-in-Ok c =
    let r = c.read_certificate in
    let a = c.args in
    found_put (ledger_of a.rec.now) (certificate_at a.packet.now a.from) _ r.new.a r.new.b r.ensures _ _ _ c.in-Ok.is c.words_in-words.ensures c.put_read.ensures
