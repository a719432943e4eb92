-- The record is sound, so its votes can be weighed.
use mathlib.Core.Path.{◌∙◌, sym}
use mathlib.Core.Bool.{false}
use Prim.Native.Nat.{◌-◌}
use Rattle.rulebook.specs.Pool.{held}
use Rattle.rulebook.specs.Weights.{slot_ok}
use Rattle.record.specs.Layout.{ledger_of}
use Rattle.soundness.specs.Sound.{sound_words}
use Rattle.writers.proofs.Laid.{carded}
use Rattle.shown_weights.specs.Weights.{held_shown}
use Rattle.shown.proofs.Laws.{first_off, second_off, both_on}
use Rattle.shown_weights.proofs.held_in.Goals as goal

pub returns-then-not-slot_ok : goal.returns-then-not-slot_ok
unfolding held_shown
returns-then-not-slot_ok c =
    first_off (slot_ok c.args.s.0) (sound_words c.args.rec.now) false (λ _. held (ledger_of c.args.rec.now) c.args.kind c.args.s.0 c.args.b) (sym c.slot_ok.ensures ∙ c.if-not-slot_ok.true)

pub returns-then-not-sound : goal.returns-then-not-sound
unfolding held_shown
returns-then-not-sound c =
    second_off (slot_ok c.args.s.0) (sound_words c.args.rec.now) false (λ _. held (ledger_of c.args.rec.now) c.args.kind c.args.s.0 c.args.b) (sym c.sound.ensures ∙ c.if-not-sound.true)

pub held-requires : goal.held-requires
held-requires c =
    carded _ _ (sym c.sound.ensures ∙ c.if-not-sound.false) (sym c.slot_ok.ensures ∙ c.if-not-slot_ok.false)

pub returns : goal.returns
unfolding held_shown
returns c =
    c.held.ensures ∙ both_on (slot_ok c.args.s.0) (sound_words c.args.rec.now) false (λ _. held (ledger_of c.args.rec.now) c.args.kind c.args.s.0 c.args.b) (sym c.slot_ok.ensures ∙ c.if-not-slot_ok.false) (sym c.sound.ensures ∙ c.if-not-sound.false)
