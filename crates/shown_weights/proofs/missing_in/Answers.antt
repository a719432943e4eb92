-- The record is sound, so its votes can be weighed.
use mathlib.Core.Path.{◌∙◌, sym}
use Prim.Native.Nat.{◌-◌}
use Rattle.rulebook.specs.Pool.{missing_to}
use Rattle.rulebook.specs.Weights.{slot_ok}
use Rattle.record.specs.Layout.{ledger_of}
use Rattle.soundness.specs.Sound.{sound_words}
use Rattle.writers.proofs.Laid.{carded}
use Rattle.shown_weights.specs.Weights.{missing_shown}
use Rattle.shown.proofs.Laws.{first_off, second_off, both_on}
use Rattle.shown_weights.proofs.missing_in.Goals as goal

pub returns-then-not-slot_ok : goal.returns-then-not-slot_ok
unfolding missing_shown
returns-then-not-slot_ok c =
    first_off (slot_ok c.args.s.0) (sound_words c.args.rec.now) 0 (λ _. missing_to (ledger_of c.args.rec.now) c.args.kind c.args.s.0 c.args.b) (sym c.slot_ok.ensures ∙ c.if-not-slot_ok.true)

pub returns-then-not-sound : goal.returns-then-not-sound
unfolding missing_shown
returns-then-not-sound c =
    second_off (slot_ok c.args.s.0) (sound_words c.args.rec.now) 0 (λ _. missing_to (ledger_of c.args.rec.now) c.args.kind c.args.s.0 c.args.b) (sym c.sound.ensures ∙ c.if-not-sound.true)

pub missing_to-requires : goal.missing_to-requires
missing_to-requires c =
    carded _ _ (sym c.sound.ensures ∙ c.if-not-sound.false) (sym c.slot_ok.ensures ∙ c.if-not-slot_ok.false)

pub returns : goal.returns
unfolding missing_shown
returns c =
    c.missing_to.ensures ∙ both_on (slot_ok c.args.s.0) (sound_words c.args.rec.now) 0 (λ _. missing_to (ledger_of c.args.rec.now) c.args.kind c.args.s.0 c.args.b) (sym c.slot_ok.ensures ∙ c.if-not-slot_ok.false) (sym c.sound.ensures ∙ c.if-not-sound.false)
