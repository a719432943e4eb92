-- The record is sound, so its votes can be counted.
use mathlib.Core.Path.{◌∙◌, sym}
use Rattle.rulebook.specs.Weights.{slot_ok}
use Rattle.record.specs.Layout.{ledger_of}
use Rattle.soundness.specs.Sound.{sound_words}
use Rattle.shown_votes.specs.Votes.{stored_in, stored_shown}
use Rattle.shown.proofs.Laws.{first_off, second_off, both_on, slot_small, counting}
use Rattle.shown_votes.proofs.stored_in.Goals as goal

pub returns-then-not-slot_ok : goal.returns-then-not-slot_ok
unfolding stored_shown
returns-then-not-slot_ok c =
    let a = c.args in
    first_off (slot_ok a.s.0) (sound_words a.rec.now) (record { votes = 0; nodes = 0; weight = record { 0 = 0 } }) (λ _. stored_in (ledger_of a.rec.now) a.s.0) (sym c.slot_ok.ensures ∙ c.if-not-slot_ok.true)

pub returns-then-not-sound : goal.returns-then-not-sound
unfolding stored_shown
returns-then-not-sound c =
    let a = c.args in
    second_off (slot_ok a.s.0) (sound_words a.rec.now) (record { votes = 0; nodes = 0; weight = record { 0 = 0 } }) (λ _. stored_in (ledger_of a.rec.now) a.s.0) (sym c.sound.ensures ∙ c.if-not-sound.true)

pub count_stored-requires : goal.count_stored-requires
count_stored-requires c =
    counting _ _ (sym c.sound.ensures ∙ c.if-not-sound.false) (slot_small _ (sym c.slot_ok.ensures ∙ c.if-not-slot_ok.false))

pub returns : goal.returns
unfolding stored_shown
returns c =
    let a = c.args in
    c.count_stored.ensures
    ∙ both_on (slot_ok a.s.0) (sound_words a.rec.now) (record { votes = 0; nodes = 0; weight = record { 0 = 0 } }) (λ _. stored_in (ledger_of a.rec.now) a.s.0) (sym c.slot_ok.ensures ∙ c.if-not-slot_ok.false) (sym c.sound.ensures ∙ c.if-not-sound.false)
