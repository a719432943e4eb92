-- The record is sound, so what is held tells what is final.
use mathlib.Core.Path.{◌∙◌, sym}
use mathlib.Core.Bool.{false}
use Prim.Native.Nat.{◌-◌}
use Rattle.rulebook.specs.Rules.{is_final}
use Rattle.rulebook.specs.Weights.{slot_ok}
use Rattle.record.specs.Layout.{ledger_of}
use Rattle.soundness.specs.Sound.{sound_words}
use Rattle.writers.proofs.Laid.{carded}
use Rattle.shown_weights.specs.Weights.{certified_shown}
use Rattle.shown.proofs.Laws.{first_off, second_off, both_on}
use Rattle.shown_weights.proofs.certified.Goals as goal

pub returns-then-not-slot_ok : goal.returns-then-not-slot_ok
unfolding certified_shown
returns-then-not-slot_ok c =
    let a = c.args in
    first_off (slot_ok a.s.0) (sound_words a.rec.now) false (λ _. is_final (ledger_of a.rec.now) a.s.0 a.b) (sym c.slot_ok.ensures ∙ c.if-not-slot_ok.true)

pub returns-then-not-sound : goal.returns-then-not-sound
unfolding certified_shown
returns-then-not-sound c =
    let a = c.args in
    second_off (slot_ok a.s.0) (sound_words a.rec.now) false (λ _. is_final (ledger_of a.rec.now) a.s.0 a.b) (sym c.sound.ensures ∙ c.if-not-sound.true)

pub is_final-requires : goal.is_final-requires
is_final-requires c =
    carded _ _ (sym c.sound.ensures ∙ c.if-not-sound.false) (sym c.slot_ok.ensures ∙ c.if-not-slot_ok.false)

pub returns : goal.returns
unfolding certified_shown
returns c =
    let a = c.args in
    c.is_final.ensures ∙ both_on (slot_ok a.s.0) (sound_words a.rec.now) false (λ _. is_final (ledger_of a.rec.now) a.s.0 a.b) (sym c.slot_ok.ensures ∙ c.if-not-slot_ok.false) (sym c.sound.ensures ∙ c.if-not-sound.false)
