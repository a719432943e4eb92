-- The record is sound, so its cards are the recount.
use mathlib.Core.Path.{◌∙◌, sym}
use Prim.Native.Nat.{◌-◌}
use Rattle.rulebook.specs.Pool.{weigh}
use Rattle.rulebook.specs.Weights.{slot_ok}
use Rattle.record.specs.Layout.{ledger_of}
use Rattle.soundness.specs.Sound.{sound_words}
use Rattle.writers.proofs.Laid.{carded}
use Rattle.shown_weights.specs.Weights.{weight_shown}
use Rattle.shown.proofs.Laws.{first_off, second_off, both_on}
use Rattle.shown_weights.proofs.weight_of.Goals as goal

pub returns-then-not-slot_ok : goal.returns-then-not-slot_ok
unfolding weight_shown
returns-then-not-slot_ok c =
    first_off (slot_ok c.args.s.0) (sound_words c.args.rec.now) 0 (λ _. weigh (ledger_of c.args.rec.now) c.args.s.0 c.args.who) (sym c.slot_ok.ensures ∙ c.if-not-slot_ok.true)

pub returns-then-not-sound : goal.returns-then-not-sound
unfolding weight_shown
returns-then-not-sound c =
    second_off (slot_ok c.args.s.0) (sound_words c.args.rec.now) 0 (λ _. weigh (ledger_of c.args.rec.now) c.args.s.0 c.args.who) (sym c.sound.ensures ∙ c.if-not-sound.true)

pub weight_of-requires : goal.weight_of-requires
weight_of-requires c =
    carded _ _ (sym c.sound.ensures ∙ c.if-not-sound.false) (sym c.slot_ok.ensures ∙ c.if-not-slot_ok.false)

pub returns : goal.returns
unfolding weight_shown
returns c =
    c.weight_of.ensures ∙ both_on (slot_ok c.args.s.0) (sound_words c.args.rec.now) 0 (λ _. weigh (ledger_of c.args.rec.now) c.args.s.0 c.args.who) (sym c.slot_ok.ensures ∙ c.if-not-slot_ok.false) (sym c.sound.ensures ∙ c.if-not-sound.false)
