-- The record is sound, so what its votes name can be counted.
use mathlib.Core.Path.{◌∙◌, sym}
use Rattle.rulebook.specs.Weights.{slot_ok}
use Rattle.record.specs.Layout.{ledger_of}
use Rattle.soundness.specs.Sound.{sound_words}
use Rattle.shown_heavy.specs.Heavy.{light_to, light_blocks}
use Rattle.shown.proofs.Laws.{first_off, second_off, both_on, slot_small, counting}
use Rattle.shown_heavy.proofs.light_blocks.Goals as goal

pub returns-then-not-slot_ok : goal.returns-then-not-slot_ok
unfolding light_blocks
returns-then-not-slot_ok c =
    let a = c.args in
    first_off (slot_ok a.s.0) (sound_words a.rec.now) 0 (λ _. light_to (ledger_of a.rec.now) a.s.0 (ledger_of a.rec.now).count) (sym c.slot_ok.ensures ∙ c.if-not-slot_ok.true)

pub returns-then-not-sound : goal.returns-then-not-sound
unfolding light_blocks
returns-then-not-sound c =
    let a = c.args in
    second_off (slot_ok a.s.0) (sound_words a.rec.now) 0 (λ _. light_to (ledger_of a.rec.now) a.s.0 (ledger_of a.rec.now).count) (sym c.sound.ensures ∙ c.if-not-sound.true)

pub count_light-requires : goal.count_light-requires
count_light-requires c =
    counting _ _ (sym c.sound.ensures ∙ c.if-not-sound.false) (slot_small _ (sym c.slot_ok.ensures ∙ c.if-not-slot_ok.false))

pub returns : goal.returns
unfolding light_blocks
returns c =
    let a = c.args in
    c.count_light.ensures
    ∙ both_on (slot_ok a.s.0) (sound_words a.rec.now) 0 (λ _. light_to (ledger_of a.rec.now) a.s.0 (ledger_of a.rec.now).count) (sym c.slot_ok.ensures ∙ c.if-not-slot_ok.false) (sym c.sound.ensures ∙ c.if-not-sound.false)
