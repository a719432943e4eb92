-- The refusals in their order, each by the tests before it.
use mathlib.Core.Path.{sym, ap, ◌∙◌}
use native.Mathlib.Omega.{arith}
use Rattle.rulebook.specs.Writers.{certificate_room}
use Rattle.record.specs.Layout.{ledger_of}
use Rattle.soundness.proofs.Laws.{sound_long}
use Rattle.writers.proofs.Verdicts.{certificate_room_lem, certificate_kind_lem, certificate_slot, certificate_block, certificate_held, certificate_passed}
use Rattle.writers.proofs.Laid.{carded}
use Rattle.writers.proofs.judge_certificate.Goals as goal

pub count-requires : goal.count-requires
count-requires c = sound_long _ c.requires

pub returns-then-room-least : goal.returns-then-room-least
returns-then-room-least c =
    certificate_room_lem (ledger_of c.args.rec.now) c.args.room c.args.kind c.args.s.0 c.args.b _ (c.certificate_room-least.ensures ∙ ap certificate_room c.count.ensures) (omega (arith, c.if-room-least.true))

pub returns-then-is_other : goal.returns-then-is_other
returns-then-is_other c =
    certificate_kind_lem (ledger_of c.args.rec.now) c.args.room c.args.kind c.args.s.0 c.args.b _ (c.certificate_room-least.ensures ∙ ap certificate_room c.count.ensures) (omega (arith, c.if-room-least.false)) (sym c.is_other.ensures ∙ c.if-is_other.true)

pub returns-then-not-slot_ok : goal.returns-then-not-slot_ok
returns-then-not-slot_ok c =
    certificate_slot (ledger_of c.args.rec.now) c.args.room c.args.kind c.args.s.0 c.args.b _ (c.certificate_room-least.ensures ∙ ap certificate_room c.count.ensures) (omega (arith, c.if-room-least.false)) (sym c.is_other.ensures ∙ c.if-is_other.false) (sym c.slot_ok.ensures ∙ c.if-not-slot_ok.true)

pub returns-then-block_misfits : goal.returns-then-block_misfits
returns-then-block_misfits c =
    certificate_block (ledger_of c.args.rec.now) c.args.room c.args.kind c.args.s.0 c.args.b _ (c.certificate_room-least.ensures ∙ ap certificate_room c.count.ensures) (omega (arith, c.if-room-least.false)) (sym c.is_other.ensures ∙ c.if-is_other.false) (sym c.slot_ok.ensures ∙ c.if-not-slot_ok.false) (sym c.block_misfits.ensures ∙ c.if-block_misfits.true)

pub held-requires : goal.held-requires
held-requires c =
    carded c.args.rec.now c.args.s.0 c.requires (sym c.slot_ok.ensures ∙ c.if-not-slot_ok.false)

pub returns-then-not-held : goal.returns-then-not-held
returns-then-not-held c =
    certificate_held (ledger_of c.args.rec.now) c.args.room c.args.kind c.args.s.0 c.args.b _ (c.certificate_room-least.ensures ∙ ap certificate_room c.count.ensures) (omega (arith, c.if-room-least.false)) (sym c.is_other.ensures ∙ c.if-is_other.false) (sym c.slot_ok.ensures ∙ c.if-not-slot_ok.false) (sym c.block_misfits.ensures ∙ c.if-block_misfits.false)
    (sym c.held.ensures ∙ c.if-not-held.true)

pub returns : goal.returns
returns c =
    certificate_passed (ledger_of c.args.rec.now) c.args.room c.args.kind c.args.s.0 c.args.b _ (c.certificate_room-least.ensures ∙ ap certificate_room c.count.ensures) (omega (arith, c.if-room-least.false)) (sym c.is_other.ensures ∙ c.if-is_other.false) (sym c.slot_ok.ensures ∙ c.if-not-slot_ok.false) (sym c.block_misfits.ensures ∙ c.if-block_misfits.false)
    (sym c.held.ensures ∙ c.if-not-held.false)
