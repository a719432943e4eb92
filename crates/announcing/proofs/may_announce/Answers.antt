-- Each way through the question.
use mathlib.Core.Path.{sym, ◌∙◌}
use Rattle.std.proofs.lemmas.Result.{err_from_is_err_and}
use Rattle.record.specs.Layout.{ledger_of}
use Rattle.soundness.proofs.Laws.{sound_counted}
use Rattle.announcing.proofs.Laws.{asked_unsound, asked_refused, asked_fine, fine_slot, carded}
use Rattle.announcing.proofs.may_announce.Goals as goal

pub returns-then-not-sound : goal.returns-then-not-sound
returns-then-not-sound c = asked_unsound _ _ _ (sym c.sound.ensures ∙ c.if-not-sound.true)

pub block_verdict-requires : goal.block_verdict-requires
block_verdict-requires c = sound_counted _ ((sym c.sound.ensures ∙ c.if-not-sound.false))

pub is_due-requires : goal.is_due-requires
is_due-requires c =
    let a = c.args in
    carded a.rec.now a.s.0 ((sym c.sound.ensures ∙ c.if-not-sound.false))
    (fine_slot (ledger_of a.rec.now) a.s.0 a.b (sym (c.in_ok-block_verdict.ensures)))

pub returns-in_err-block_verdict : goal.returns-in_err-block_verdict
returns-in_err-block_verdict c =
    let a = c.args in
    let p = err_from_is_err_and c.from_residual.result c.from_residual.ensures.1 in
    rw (p.1, p.2) (asked_refused a.rec.now a.s.0 a.b (sym c.sound.ensures ∙ c.if-not-sound.false) _ (c.in_err-block_verdict.ensures))

pub returns : goal.returns
returns c =
    let a = c.args in
    asked_fine a.rec.now a.s.0 a.b ((sym c.sound.ensures ∙ c.if-not-sound.false)) (c.in_ok-block_verdict.ensures) _ c.is_due.ensures
