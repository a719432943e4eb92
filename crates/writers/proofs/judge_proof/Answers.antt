-- The refusals in their order, each by the tests before it.
use mathlib.Core.Path.{sym, ap, ◌∙◌}
use native.Mathlib.Omega.{arith}
use Rattle.rulebook.specs.Writers.{proof_room}
use Rattle.record.specs.Layout.{ledger_of}
use Rattle.soundness.proofs.Laws.{sound_long}
use Rattle.writers.proofs.Verdicts.{proof_room_lem, proof_slot, proof_block, proof_final, proof_passed}
use Rattle.writers.proofs.Laid.{carded}
use Rattle.writers.proofs.judge_proof.Goals as goal

pub count-requires : goal.count-requires
count-requires c = sound_long _ c.requires

pub returns-then-room-least : goal.returns-then-room-least
returns-then-room-least c =
    proof_room_lem (ledger_of c.args.rec.now) c.args.room c.args.s.0 c.args.b _ (c.proof_room-least.ensures ∙ ap proof_room c.count.ensures) (omega (arith, c.if-room-least.true))

pub returns-then-not-slot_ok : goal.returns-then-not-slot_ok
returns-then-not-slot_ok c =
    proof_slot (ledger_of c.args.rec.now) c.args.room c.args.s.0 c.args.b _ (c.proof_room-least.ensures ∙ ap proof_room c.count.ensures) (omega (arith, c.if-room-least.false)) (sym c.slot_ok.ensures ∙ c.if-not-slot_ok.true)

pub returns-then-b-eq0 : goal.returns-then-b-eq0
returns-then-b-eq0 c =
    proof_block (ledger_of c.args.rec.now) c.args.room c.args.s.0 c.args.b _ (c.proof_room-least.ensures ∙ ap proof_room c.count.ensures) (omega (arith, c.if-room-least.false)) (sym c.slot_ok.ensures ∙ c.if-not-slot_ok.false) c.if-b-eq0.true

pub is_final-requires : goal.is_final-requires
is_final-requires c =
    carded c.args.rec.now c.args.s.0 c.requires (sym c.slot_ok.ensures ∙ c.if-not-slot_ok.false)

pub returns-then-not-is_final : goal.returns-then-not-is_final
returns-then-not-is_final c =
    proof_final (ledger_of c.args.rec.now) c.args.room c.args.s.0 c.args.b _ (c.proof_room-least.ensures ∙ ap proof_room c.count.ensures) (omega (arith, c.if-room-least.false)) (sym c.slot_ok.ensures ∙ c.if-not-slot_ok.false) c.if-b-eq0.false (sym c.is_final.ensures ∙ c.if-not-is_final.true)

pub returns : goal.returns
returns c =
    proof_passed (ledger_of c.args.rec.now) c.args.room c.args.s.0 c.args.b _ (c.proof_room-least.ensures ∙ ap proof_room c.count.ensures) (omega (arith, c.if-room-least.false)) (sym c.slot_ok.ensures ∙ c.if-not-slot_ok.false) c.if-b-eq0.false (sym c.is_final.ensures ∙ c.if-not-is_final.false)
