-- 17, what the checker says, a watcher, or the lines.
use Rattle.std.specs.Prelude.{◌≡◌, Err}
use Rattle.std.proofs.Common.{rules}
use mathlib.Core.Path.{◌∙◌, ap, sym}
use Prim.Native.Nat.{ℕ}
use mathlib.Core.List.{List}
use Rattle.soundness.proofs.Laws.{sound_long, sound_counted}
use Rattle.inquest_lines.specs.declared.ListRefusal.TheVariants as why
use Rattle.vouched_packets.specs.Asked.{check_packet}
use Rattle.vouched_packets.proofs.Laws.{bad_told, refused_told, watcher_told, firm_told}
use Rattle.vouched_packets.proofs.vouched_packet.Goals as goal

pub returns-then-not-sound : goal.returns-then-not-sound
returns-then-not-sound c =
    let a = c.args in bad_told a.rec.now a.packet.now a.list.now (sym c.sound.ensures ∙ c.if-not-sound.true)

pub stakes_of-requires : goal.stakes_of-requires
stakes_of-requires c = sound_counted _ ((sym c.sound.ensures ∙ c.if-not-sound.false))

pub is_watcher-requires : goal.is_watcher-requires
is_watcher-requires c = sound_long _ ((sym c.sound.ensures ∙ c.if-not-sound.false))

pub returns-then-is_watcher : goal.returns-then-is_watcher
returns-then-is_watcher c =
    let a = c.args in
    watcher_told a.rec.now a.packet.now a.list.now ((sym c.sound.ensures ∙ c.if-not-sound.false)) ((c.check_packet.ensures ∙ ap (λ (ws : List ℕ). check_packet ws c.args.packet.now) c.stakes_of.ensures)) _ c.in_ok-check_packet.was (sym c.is_watcher.ensures ∙ c.if-is_watcher.true)

pub list_packet-requires : goal.list_packet-requires
list_packet-requires c = sound_long _ ((sym c.sound.ensures ∙ c.if-not-sound.false))

pub returns-in_err-check_packet : goal.returns-in_err-check_packet
returns-in_err-check_packet c =
    let a = c.args in
    let e : c.from_residual.result ≡ Err (why.Refused c.in_err-check_packet.field-0.0) = search rules in
    rw e (refused_told a.rec.now a.packet.now a.list.now (sym c.sound.ensures ∙ c.if-not-sound.false) (c.check_packet.ensures ∙ ap (λ (ws : List ℕ). check_packet ws c.args.packet.now) c.stakes_of.ensures) _ c.in_err-check_packet.was)

pub returns : goal.returns
returns c =
    let a = c.args in
    firm_told a.rec.now a.packet.now a.list.now ((sym c.sound.ensures ∙ c.if-not-sound.false)) ((c.check_packet.ensures ∙ ap (λ (ws : List ℕ). check_packet ws c.args.packet.now) c.stakes_of.ensures)) _ c.in_ok-check_packet.was (sym c.is_watcher.ensures ∙ c.if-is_watcher.false) c.list_packet.ensures
