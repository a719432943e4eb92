-- Each way out of a step: 17, 9, the input's own refusal, done.
use mathlib.Core.Path.{◌∙◌, sym}
use Rattle.std.proofs.lemmas.Result.{err_from_is_err_and}
use Rattle.soundness.proofs.Laws.{sound_counted}
use Rattle.node.proofs.StepLaws.{step_unsound, step_cramped, step_refused, step_done}
use Rattle.node.proofs.step.Goals as goal

pub returns-then-not-sound : goal.returns-then-not-sound
returns-then-not-sound c =
    let a = c.args in step_unsound a.rec.now a.outbox.now a.input (sym c.sound.ensures ∙ c.if-not-sound.true)

pub returns-then-outbox-lt-OUTBOX_WORDS : goal.returns-then-outbox-lt-OUTBOX_WORDS
returns-then-outbox-lt-OUTBOX_WORDS c =
    let a = c.args in step_cramped a.rec.now a.outbox.now a.input (sym c.sound.ensures ∙ c.if-not-sound.false) c.if-outbox-lt-OUTBOX_WORDS.true

pub judge_input-requires : goal.judge_input-requires
judge_input-requires c = sound_counted c.args.rec.now (sym c.sound.ensures ∙ c.if-not-sound.false)

pub act-requires : goal.act-requires
act-requires c =
    record { sound = sym c.sound.ensures ∙ c.if-not-sound.false; room = c.if-outbox-lt-OUTBOX_WORDS.false; fine = sym (c.in_ok-judge_input.ensures) }

pub returns-in_err-judge_input : goal.returns-in_err-judge_input
returns-in_err-judge_input c =
    let a = c.args in
    let p = err_from_is_err_and c.from_residual.result c.from_residual.ensures.1 in
    rw (p.1, p.2)
    (step_refused a.rec.now a.outbox.now a.input (sym c.sound.ensures ∙ c.if-not-sound.false) c.if-outbox-lt-OUTBOX_WORDS.false _ (sym (c.in_err-judge_input.ensures)))

pub returns : goal.returns
returns c =
    let a = c.args in let q = c.act in step_done a.rec.now a.outbox.now a.input (sym c.sound.ensures ∙ c.if-not-sound.false) c.if-outbox-lt-OUTBOX_WORDS.false (sym (c.in_ok-judge_input.ensures)) (λ n. (c.type_inv.rec n).fits) q.auto.outbox q.ensures
