-- 17, the refusals of the written rules, or the certificate's bytes.
use Rattle.std.specs.Prelude.{◌≡◌, Ok, Err}
use mathlib.Core.Path.{sym, ◌∙◌}
use lib.ListN.{length}
use borrow.Author.Rules.{rules}
use Rattle.record.specs.Layout.{ledger_of}
use Rattle.soundness.proofs.Laws.{sound_long}
use Rattle.numbers.proofs.Stores.{writes_refused, writes_laid}
use Rattle.writers.proofs.Verdicts.{certificate_fine, slot_row}
use Rattle.writers.proofs.Laid.{kind_asked, room_front, writes_unsound, certificate_unsound, certificate_judged}
use Rattle.writers.proofs.write_certificate.Goals as goal

pub returns-then-not-sound : goal.returns-then-not-sound
returns-then-not-sound c =
    let s = c.args in
    writes_unsound _ s.buffer.now
    (certificate_unsound s.rec.now (length s.buffer.now) s.kind s.slot.0 s.block (sym c.sound.ensures ∙ c.if-not-sound.true))

pub count-requires : goal.count-requires
count-requires c = sound_long _ (sym c.sound.ensures ∙ c.if-not-sound.false)

pub judge_certificate-requires : goal.judge_certificate-requires
judge_certificate-requires c = sym c.sound.ensures ∙ c.if-not-sound.false

pub lay_certificate-requires : goal.lay_certificate-requires
lay_certificate-requires c =
    let s = c.args in
    let f = certificate_fine (ledger_of s.rec.now) (length s.buffer.now) _ s.slot.0 s.block (sym c.judge_certificate.ensures ∙ c.in_ok-judge_certificate.was) in (
      record {
        sound = sym c.sound.ensures ∙ c.if-not-sound.false;
        kind = f.kind;
        slot = f.slot;
        room = room_front (ledger_of s.rec.now) _ s.slot.0 s.block s.buffer.now (slot_row _ f.slot) f.room;
      },
      f.there,
    )

pub returns-in_err-judge_certificate : goal.returns-in_err-judge_certificate
returns-in_err-judge_certificate c =
    let s = c.args in
    let e : c.from_residual.result ≡ Err c.in_err-judge_certificate.field-0.0 = search rules in
    rw e
    (writes_refused _ _ s.buffer.now _
    (certificate_judged s.rec.now (length s.buffer.now) s.kind s.slot.0 s.block _ (kind_asked s.rec.now s.kind c.kind_in-asked.ensures c.count.ensures) _ (sym c.sound.ensures ∙ c.if-not-sound.false)
    (sym c.in_err-judge_certificate.was ∙ c.judge_certificate.ensures)))

pub returns : goal.returns
returns c =
    let s = c.args in
    writes_laid _ _
    (certificate_judged s.rec.now (length s.buffer.now) s.kind s.slot.0 s.block _ (kind_asked s.rec.now s.kind c.kind_in-asked.ensures c.count.ensures) (Ok tt) (sym c.sound.ensures ∙ c.if-not-sound.false)
    (sym c.in_ok-judge_certificate.was ∙ c.judge_certificate.ensures))
    c.lay_certificate.ensures
