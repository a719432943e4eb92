-- No slot of the record, no place, no sound record, a free place, and the certificate.
use Rattle.std.specs.Prelude.{Some, None}
use mathlib.Core.Path.{◌∙◌, sym, ap}
use Rattle.rulebook.specs.declared.Accepted.{Accepted}
use native.Mathlib.Omega.{arith}
use Rattle.rulebook.specs.Weights.{slot_ok}
use Rattle.soundness.specs.Sound.{sound_words}
use Rattle.shown.proofs.Laws.{first_off, second_off}
use Rattle.shown_kept.specs.Kept.{kept_shown}
use Rattle.shown_kept.proofs.Laws.{past_places, free_place_lem, kept_place, judgeable}
use Rattle.shown_kept.proofs.kept_certificate.Goals as goal

pub returns-then-not-slot_ok : goal.returns-then-not-slot_ok
unfolding kept_shown
returns-then-not-slot_ok c =
    let a = c.args in
    first_off (slot_ok a.s.0) (sound_words a.rec.now) None _ (sym c.slot_ok.ensures ∙ c.if-not-slot_ok.true)

pub returns-then-place-ge-MOST_CERTIFICATES : goal.returns-then-place-ge-MOST_CERTIFICATES
returns-then-place-ge-MOST_CERTIFICATES c =
    let a = c.args in
    past_places a.rec.now a.s.0 a.place (sym c.slot_ok.ensures ∙ c.if-not-slot_ok.false) c.if-place-ge-MOST_CERTIFICATES.true

pub returns-then-not-sound : goal.returns-then-not-sound
unfolding kept_shown
returns-then-not-sound c =
    let a = c.args in
    second_off (slot_ok a.s.0) (sound_words a.rec.now) None _ (sym c.sound.ensures ∙ c.if-not-sound.true)

pub is_kept-requires : goal.is_kept-requires
is_kept-requires c =
    let j = judgeable _ _ 0 (sym c.slot_ok.ensures ∙ c.if-not-slot_ok.false) (sym c.sound.ensures ∙ c.if-not-sound.false) in
    record { long = j.long; slot = j.slot; place = omega (arith, c.if-place-ge-MOST_CERTIFICATES.false) }

pub returns-then-not-is_kept : goal.returns-then-not-is_kept
returns-then-not-is_kept c =
    let a = c.args in
    free_place_lem a.rec.now a.s.0 a.place (sym c.slot_ok.ensures ∙ c.if-not-slot_ok.false) (sym c.sound.ensures ∙ c.if-not-sound.false) (sym c.is_kept.ensures ∙ c.if-not-is_kept.true)

pub told_of-requires : goal.told_of-requires
told_of-requires c =
    record {
      judging = judgeable _ _ 0 (sym c.slot_ok.ensures ∙ c.if-not-slot_ok.false) (sym c.sound.ensures ∙ c.if-not-sound.false);
      place = omega (arith, c.if-place-ge-MOST_CERTIFICATES.false);
    }

pub returns : goal.returns
returns c =
    let a = c.args in
    ap (λ (x : Accepted). Some x) c.told_of.ensures
    ∙ kept_place a.rec.now a.s.0 a.place (sym c.slot_ok.ensures ∙ c.if-not-slot_ok.false) (sym c.sound.ensures ∙ c.if-not-sound.false) (sym c.is_kept.ensures ∙ c.if-not-is_kept.false)
