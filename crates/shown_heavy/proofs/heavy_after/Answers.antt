-- The record is sound, so its votes can be weighed.
use mathlib.Core.Path.{◌∙◌, sym}
use Rattle.rulebook.specs.Weights.{slot_ok}
use Rattle.record.specs.Layout.{ledger_of}
use Rattle.soundness.specs.Sound.{sound_words}
use Rattle.rulebook.specs.Pool.{names}
use Rattle.rulebook.specs.Tools.{lowest}
use Rattle.writers.proofs.Laid.{weighing}
use Rattle.shown_heavy.specs.Heavy.{heavy_past, heavy_after}
use Rattle.shown.proofs.Laws.{first_off, second_off, both_on, slot_small}
use Rattle.shown_heavy.proofs.heavy_after.Goals as goal

pub returns-then-not-slot_ok : goal.returns-then-not-slot_ok
unfolding heavy_after
returns-then-not-slot_ok c =
    let a = c.args in
    first_off (slot_ok a.s.0) (sound_words a.rec.now) 0 (λ _. lowest (heavy_past (ledger_of a.rec.now) a.s.0 a.after) (names (ledger_of a.rec.now) a.s.0)) (sym c.slot_ok.ensures ∙ c.if-not-slot_ok.true)

pub returns-then-not-sound : goal.returns-then-not-sound
unfolding heavy_after
returns-then-not-sound c =
    let a = c.args in
    second_off (slot_ok a.s.0) (sound_words a.rec.now) 0 (λ _. lowest (heavy_past (ledger_of a.rec.now) a.s.0 a.after) (names (ledger_of a.rec.now) a.s.0)) (sym c.sound.ensures ∙ c.if-not-sound.true)

pub lowest_heavy-requires : goal.lowest_heavy-requires
lowest_heavy-requires c =
    weighing _ _ (sym c.sound.ensures ∙ c.if-not-sound.false) (slot_small _ (sym c.slot_ok.ensures ∙ c.if-not-slot_ok.false))

pub returns : goal.returns
unfolding heavy_after
returns c =
    let a = c.args in
    c.lowest_heavy.ensures
    ∙ both_on (slot_ok a.s.0) (sound_words a.rec.now) 0 (λ _. lowest (heavy_past (ledger_of a.rec.now) a.s.0 a.after) (names (ledger_of a.rec.now) a.s.0)) (sym c.slot_ok.ensures ∙ c.if-not-slot_ok.false) (sym c.sound.ensures ∙ c.if-not-sound.false)
