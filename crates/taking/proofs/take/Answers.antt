-- Each way out: 17, 9, the checker's refusal, 7 or 8, done.
use mathlib.Core.Path.{◌∙◌, sym}
use Rattle.std.proofs.lemmas.Result.{err_from_is_err_and}
use Rattle.soundness.proofs.Laws.{sound_counted}
use Rattle.taking.proofs.Accepted.{checked_as, told_placed}
use Rattle.taking.proofs.TakeLaws.{take_unsound, take_cramped, take_bad, take_kept, take_done}
use Rattle.taking.proofs.take.Goals as goal

pub returns-then-not-sound : goal.returns-then-not-sound
returns-then-not-sound c =
    let a = c.args in
    take_unsound a.rec.now a.outbox.now a.packet.now (sym c.sound.ensures ∙ c.if-not-sound.true)

pub returns-then-outbox-lt-OUTBOX_WORDS : goal.returns-then-outbox-lt-OUTBOX_WORDS
returns-then-outbox-lt-OUTBOX_WORDS c =
    let a = c.args in
    take_cramped a.rec.now a.outbox.now a.packet.now (sym c.sound.ensures ∙ c.if-not-sound.false) c.if-outbox-lt-OUTBOX_WORDS.true

pub stakes_of-requires : goal.stakes_of-requires
stakes_of-requires c =
    let a = c.args in
    sound_counted a.rec.now (sym c.sound.ensures ∙ c.if-not-sound.false)

pub returns-in_err-told : goal.returns-in_err-told
returns-in_err-told c =
    let a = c.args in
    let p = err_from_is_err_and c.from_residual.result c.from_residual.ensures.1 in
    rw (p.1, p.2)
    (take_bad a.rec.now a.outbox.now a.packet.now (sym c.sound.ensures ∙ c.if-not-sound.false) c.if-outbox-lt-OUTBOX_WORDS.false _ (checked_as a.rec.now a.packet.now c.stakes_of.ensures c.check_certificate.ensures (c.in_err-told.was)))

pub kept_verdict-requires : goal.kept_verdict-requires
kept_verdict-requires c =
    let a = c.args in
    told_placed a.rec.now a.packet.now _ (record { sound = (sym c.sound.ensures ∙ c.if-not-sound.false); checked = (checked_as a.rec.now a.packet.now c.stakes_of.ensures c.check_certificate.ensures (c.in_ok-told.was)) })

pub act-requires : goal.act-requires
act-requires c =
    let a = c.args in
    record {
      accepting = record { sound = (sym c.sound.ensures ∙ c.if-not-sound.false); checked = (checked_as a.rec.now a.packet.now c.stakes_of.ensures c.check_certificate.ensures (c.in_ok-told.was)) };
      room = c.if-outbox-lt-OUTBOX_WORDS.false;
      fine = sym (c.in_ok-kept_verdict.ensures);
    }

pub returns-in_err-kept_verdict : goal.returns-in_err-kept_verdict
returns-in_err-kept_verdict c =
    let a = c.args in
    let p = err_from_is_err_and c.from_residual-in_err-kept_verdict.result c.from_residual-in_err-kept_verdict.ensures.1 in
    rw (p.1, p.2)
    (take_kept a.rec.now a.outbox.now a.packet.now (sym c.sound.ensures ∙ c.if-not-sound.false) c.if-outbox-lt-OUTBOX_WORDS.false _ (checked_as a.rec.now a.packet.now c.stakes_of.ensures c.check_certificate.ensures (c.in_ok-told.was)) _
    (sym (c.in_err-kept_verdict.ensures)))

pub returns : goal.returns
returns c =
    let a = c.args in
    let q = c.act in
    take_done a.rec.now a.outbox.now a.packet.now (sym c.sound.ensures ∙ c.if-not-sound.false) c.if-outbox-lt-OUTBOX_WORDS.false _ (checked_as a.rec.now a.packet.now c.stakes_of.ensures c.check_certificate.ensures (c.in_ok-told.was))
    (sym (c.in_ok-kept_verdict.ensures))
    (λ n. (c.type_inv.rec n).fits) q.auto.outbox q.ensures
