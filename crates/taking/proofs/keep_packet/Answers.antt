-- The masks are read again, and kept in words as many as the record's masks have.
use mathlib.Core.Path.{sym, ap, ◌∙◌}
use native.Mathlib.Omega.{arith}
use lib.Seq.{length-take-le}
use Rattle.record.specs.Layout.{mask_words}
use Rattle.record.proofs.Places.{mask_few}
use Rattle.taking.proofs.Accepted.{told_placed, keeps_front}
use Rattle.taking.proofs.keep_packet.Goals as goal

pub slice_bounds-a-end : goal.slice_bounds-a-end
slice_bounds-a-end c =
    omega (arith, c.mask_words-words.ensures, mask_few c.places_in.result, c.read_certificate.auto.a)

pub slice_bounds-keep_certificate-end : goal.slice_bounds-keep_certificate-end
slice_bounds-keep_certificate-end c =
    sym (length-take-le _ c.read_certificate.new.a (omega (arith, c.mask_words-words.ensures, mask_few c.places_in.result, c.read_certificate.auto.a)))

pub slice_bounds-b-end : goal.slice_bounds-b-end
slice_bounds-b-end c =
    omega (arith, c.mask_words-words.ensures, mask_few c.places_in.result, c.read_certificate.auto.b)

pub slice_bounds-keep_certificate-end-2 : goal.slice_bounds-keep_certificate-end-2
slice_bounds-keep_certificate-end-2 c =
    sym (length-take-le _ c.read_certificate.new.b (omega (arith, c.mask_words-words.ensures, mask_few c.places_in.result, c.read_certificate.auto.b)))

pub keep_certificate-requires : goal.keep_certificate-requires
keep_certificate-requires c =
    let w = c.mask_words-words in
    let few = mask_few c.places_in.result in
    let words = w.ensures ∙ ap mask_words c.places_in.ensures in
    record {
      slot = told_placed c.args.rec.now c.args.packet.now c.args.told c.requires;
      many_a = length-take-le w.result c.read_certificate.new.a (omega (arith, w.ensures, few, c.read_certificate.auto.a)) ∙ words;
      many_b = length-take-le w.result c.read_certificate.new.b (omega (arith, w.ensures, few, c.read_certificate.auto.b)) ∙ words;
    }

pub returns : goal.returns
returns c =
    let r = c.read_certificate in
    keeps_front c.args.rec.now c.args.packet.now c.args.told c.requires _ r.result r.new.a r.new.b c.mask_words-words.result r.ensures
    (c.mask_words-words.ensures ∙ ap mask_words c.places_in.ensures) c.keep_certificate.ensures
