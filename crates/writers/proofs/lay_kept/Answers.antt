-- The masks are lent from the place that is found, and make the certificate.
use mathlib.Core.Path.{sym, subst}
use Rattle.rulebook.specs.Certificates.{Certificate}
use Rattle.rulebook.specs.Packets.{certificate_bytes}
use Rattle.record.specs.Layout.{ledger_of}
use Rattle.numbers.specs.Written.{Room}
use Rattle.soundness.proofs.Laws.{sound_long}
use Rattle.writers.proofs.Verdicts.{slot_row}
use Rattle.writers.proofs.Laid.{place_there, kept_words_lem, number_asked, kept_named, kept_masks, laid_same}
use Rattle.writers.proofs.lay_kept.Goals as goal

pub kept_place-n-requires : goal.kept_place-n-requires
kept_place-n-requires c = let pre = c.requires.0 in record { long = sound_long _ pre.sound; slot = slot_row _ pre.slot }

pub mask_a-x-requires : goal.mask_a-x-requires
mask_a-x-requires c =
    let pre = c.requires.0 in
    record { long = sound_long _ pre.sound; slot = slot_row _ pre.slot; place = (place_there c.args.rec.now c.args.kind c.args.s.0 c.args.b _ (slot_row _ c.requires.0.slot) c.requires.1 c.kept_place-n.ensures) }

pub mask_b-y-requires : goal.mask_b-y-requires
mask_b-y-requires c =
    let pre = c.requires.0 in
    record { long = sound_long _ pre.sound; slot = slot_row _ pre.slot; place = (place_there c.args.rec.now c.args.kind c.args.s.0 c.args.b _ (slot_row _ c.requires.0.slot) c.requires.1 c.kept_place-n.ensures) }

pub count-requires : goal.count-requires
count-requires c = sound_long _ c.requires.0.sound

pub write_certificate-requires : goal.write_certificate-requires
write_certificate-requires c =
    let s = c.args in
    let pre = c.requires.0 in
    let masks = kept_masks (ledger_of s.rec.now) s.kind s.s.0 s.b _ c.kept_place-n.ensures _ _ c.mask_a-x.ensures c.mask_b-y.ensures _
    (number_asked s.rec.now s.kind c.number_in.ensures c.count.ensures) (kept_words_lem s.rec.now s.kind pre.sound pre.kind) in (
      masks,
      subst (λ (z : Certificate). Room s.buffer.now s.at (certificate_bytes z)) (sym ((let s = c.args in
          kept_named (ledger_of s.rec.now) s.kind s.s.0 s.b _ c.kept_place-n.ensures _ _ c.mask_a-x.ensures c.mask_b-y.ensures _
          (number_asked s.rec.now s.kind c.number_in.ensures c.count.ensures)))) pre.room,
    )

pub returns : goal.returns
returns c =
    laid_same ((let s = c.args in
    kept_named (ledger_of s.rec.now) s.kind s.s.0 s.b _ c.kept_place-n.ensures _ _ c.mask_a-x.ensures c.mask_b-y.ensures _
    (number_asked s.rec.now s.kind c.number_in.ensures c.count.ensures))) c.write_certificate.ensures
