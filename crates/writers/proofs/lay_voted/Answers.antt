-- The masks' words are lent to be filled and lent again to be written.
use mathlib.Core.Path.{sym, subst, ◌∙◌}
use lib.Seq.{length-take-le}
use Rattle.rulebook.specs.Certificates.{Certificate}
use Rattle.rulebook.specs.Packets.{certificate_bytes}
use Rattle.record.specs.Layout.{ledger_of}
use Rattle.numbers.specs.Written.{Room}
use Rattle.soundness.proofs.Laws.{sound_long}
use Rattle.certificate_numbers.proofs.Whole.{words_few}
use Rattle.writers.proofs.Verdicts.{slot_row}
use Rattle.writers.proofs.Laid.{words_asked, naming, front_enough, given_back, given_masks, laid_same}
use Rattle.writers.proofs.lay_voted.Goals as goal

pub count-requires : goal.count-requires
count-requires c = sound_long _ c.requires.sound

pub slice_bounds-x-end : goal.slice_bounds-x-end
slice_bounds-x-end c = words_few _ _ c.words_in-words.ensures

pub slice_bounds-certificate_for-end : goal.slice_bounds-certificate_for-end
slice_bounds-certificate_for-end c = sym (length-take-le _ _ (words_few _ _ c.words_in-words.ensures))

pub slice_bounds-y-end : goal.slice_bounds-y-end
slice_bounds-y-end c = words_few _ _ c.words_in-words.ensures

pub slice_bounds-certificate_for-end-2 : goal.slice_bounds-certificate_for-end-2
slice_bounds-certificate_for-end-2 c = sym (length-take-le _ _ (words_few _ _ c.words_in-words.ensures))

pub certificate_for-c-requires : goal.certificate_for-c-requires
certificate_for-c-requires c =
    let few = words_few _ _ c.words_in-words.ensures in
    naming c.args.rec.now c.args.s.0 _ _ c.args.kind _ c.requires.sound (slot_row _ c.requires.slot) c.requires.kind (words_asked c.args.rec.now c.args.kind c.words_in-words.ensures c.number_in.ensures c.count.ensures) (length-take-le _ _ few) (length-take-le _ _ few)

pub slice_bounds-x-end-2 : goal.slice_bounds-x-end-2
slice_bounds-x-end-2 c =
    front_enough _ c.certificate_for-c.new.a _ (c.certificate_for-c.auto.a ∙ length-take-le _ _ (words_few _ _ c.words_in-words.ensures))

pub slice_bounds-write_certificate-end : goal.slice_bounds-write_certificate-end
slice_bounds-write_certificate-end c =
    sym (length-take-le _ _ (front_enough _ c.certificate_for-c.new.a _ (c.certificate_for-c.auto.a ∙ length-take-le _ _ (words_few _ _ c.words_in-words.ensures))))

pub slice_bounds-y-end-2 : goal.slice_bounds-y-end-2
slice_bounds-y-end-2 c =
    front_enough _ c.certificate_for-c.new.b _ (c.certificate_for-c.auto.b ∙ length-take-le _ _ (words_few _ _ c.words_in-words.ensures))

pub slice_bounds-write_certificate-end-2 : goal.slice_bounds-write_certificate-end-2
slice_bounds-write_certificate-end-2 c =
    sym (length-take-le _ _ (front_enough _ c.certificate_for-c.new.b _ (c.certificate_for-c.auto.b ∙ length-take-le _ _ (words_few _ _ c.words_in-words.ensures))))

pub write_certificate-requires : goal.write_certificate-requires
write_certificate-requires c =
    let s = c.args in
    let l = ledger_of s.rec.now in
    let w = c.words_in-words in
    let xs = c.certificate_for-c.new.a in
    let ys = c.certificate_for-c.new.b in
    let few = words_few _ _ w.ensures in
    let longX = c.certificate_for-c.auto.a ∙ length-take-le _ _ few in
    let longY = c.certificate_for-c.auto.b ∙ length-take-le _ _ few in
    let masks = given_masks l s.kind s.s.0 s.b c.certificate_for-c.result w.result xs ys c.certificate_for-c.ensures longX longY _ _ (words_asked s.rec.now s.kind w.ensures c.number_in.ensures c.count.ensures) in
    let same = given_back l s.kind s.s.0 s.b c.certificate_for-c.result w.result xs ys c.certificate_for-c.ensures longX longY _ _ in
    (masks, subst (λ (z : Certificate). Room s.buffer.now s.at (certificate_bytes z)) (sym same) c.requires.room)

pub returns : goal.returns
returns c =
    let s = c.args in
    let l = ledger_of s.rec.now in
    let w = c.words_in-words in
    let xs = c.certificate_for-c.new.a in
    let ys = c.certificate_for-c.new.b in
    let few = words_few _ _ w.ensures in
    let longX = c.certificate_for-c.auto.a ∙ length-take-le _ _ few in
    let longY = c.certificate_for-c.auto.b ∙ length-take-le _ _ few in
    let same = given_back l s.kind s.s.0 s.b c.certificate_for-c.result w.result xs ys c.certificate_for-c.ensures longX longY _ _ in
    laid_same same c.write_certificate.ensures
