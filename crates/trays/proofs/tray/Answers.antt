-- Each way out of a tray: 17, 9 for either buffer, 12, each vote served.
use mathlib.Core.Path.{◌∙◌, sym}
use Rattle.trays.proofs.Ways.{tray_unsound, outbox_cramped, answers_cramped, tray_part, tray_done}
use Rattle.trays.proofs.tray.Goals as goal

pub returns-then-not-sound : goal.returns-then-not-sound
returns-then-not-sound c =
    let a = c.args in tray_unsound a.rec.now a.outbox.now a.votes.now a.answers.now (sym c.sound.ensures ∙ c.if-not-sound.true)

pub returns-then-outbox-lt-OUTBOX_WORDS : goal.returns-then-outbox-lt-OUTBOX_WORDS
returns-then-outbox-lt-OUTBOX_WORDS c =
    let a = c.args in outbox_cramped a.rec.now a.outbox.now a.votes.now a.answers.now (sym c.sound.ensures ∙ c.if-not-sound.false) c.if-outbox-lt-OUTBOX_WORDS.true

pub returns-then-answers-votes : goal.returns-then-answers-votes
returns-then-answers-votes c =
    let a = c.args in answers_cramped a.rec.now a.outbox.now a.votes.now a.answers.now (sym c.sound.ensures ∙ c.if-not-sound.false) c.if-answers-votes.true

pub returns-then-votes-ne0 : goal.returns-then-votes-ne0
returns-then-votes-ne0 c =
    let a = c.args in tray_part a.rec.now a.outbox.now a.votes.now a.answers.now (sym c.sound.ensures ∙ c.if-not-sound.false) c.if-outbox-lt-OUTBOX_WORDS.false c.if-answers-votes.false c.if-votes-ne0.true

pub serve_votes-requires : goal.serve_votes-requires
serve_votes-requires c =
    record { sound = sym c.sound.ensures ∙ c.if-not-sound.false; room = c.if-outbox-lt-OUTBOX_WORDS.false; enough = c.if-answers-votes.false }

pub returns : goal.returns
returns c =
    let a = c.args in tray_done a.rec.now a.outbox.now a.votes.now a.answers.now (sym c.sound.ensures ∙ c.if-not-sound.false) c.if-outbox-lt-OUTBOX_WORDS.false c.if-answers-votes.false c.if-votes-ne0.false c.serve_votes.ensures
