-- 17, what the proof checker says, or where the first certificate ends.
use Rattle.std.specs.Prelude.{◌≡◌, Err}
use Rattle.std.proofs.Common.{rules}
use mathlib.Core.Path.{◌∙◌, ap, sym}
use mathlib.Core.List.{List}
use Prim.Native.Nat.{ℕ}
use Rattle.rulebook.specs.Checker.{check_proof}
use Rattle.soundness.proofs.Laws.{sound_counted}
use Rattle.vouched_packets.proofs.Splitting.{split_unsound, split_refused, split_there}
use Rattle.vouched_packets.proofs.split_proof.Goals as goal

pub returns-then-not-sound : goal.returns-then-not-sound
returns-then-not-sound c =
    let a = c.args in split_unsound a.rec.now a.packet.now (sym c.sound.ensures ∙ c.if-not-sound.true)

pub stakes_of-requires : goal.stakes_of-requires
stakes_of-requires c = sound_counted _ ((sym c.sound.ensures ∙ c.if-not-sound.false))

pub returns-in_err-check_proof : goal.returns-in_err-check_proof
returns-in_err-check_proof c =
    let a = c.args in
    let e : c.from_residual.result ≡ Err c.in_err-check_proof.field-0.0 = search rules in
    e ∙ split_refused a.rec.now a.packet.now (sym c.sound.ensures ∙ c.if-not-sound.false) _
    (sym c.in_err-check_proof.was ∙ (c.check_proof.ensures ∙ ap (λ (ws : List ℕ). check_proof ws c.args.packet.now) c.stakes_of.ensures))

pub returns : goal.returns
returns c =
    let a = c.args in
    split_there a.rec.now a.packet.now ((sym c.sound.ensures ∙ c.if-not-sound.false)) _ (sym c.in_ok-check_proof.was ∙ (c.check_proof.ensures ∙ ap (λ (ws : List ℕ). check_proof ws c.args.packet.now) c.stakes_of.ensures)) _ c.first_end.ensures
