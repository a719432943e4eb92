-- 17, the refusals of the written rules, or the proof's bytes.
use Rattle.std.specs.Prelude.{◌≡◌, Ok, Err}
use mathlib.Core.Path.{sym, ◌∙◌}
use lib.ListN.{length}
use Rattle.record.specs.Layout.{ledger_of}
use Rattle.writers.proofs.Verdicts.{proof_fine}
use Rattle.numbers.proofs.Stores.{writes_refused, writes_laid}
use Rattle.writers.proofs.Laid.{writes_unsound, proof_unsound, proof_judged}
use borrow.Author.Rules.{rules}
use Rattle.writers.proofs.write_proof.Goals as goal

pub returns-then-not-sound : goal.returns-then-not-sound
returns-then-not-sound c =
    writes_unsound _ c.args.buffer.now (proof_unsound c.args.rec.now (length c.args.buffer.now) c.args.slot.0 c.args.block (sym c.sound.ensures ∙ c.if-not-sound.true))

pub judge_proof-requires : goal.judge_proof-requires
judge_proof-requires c = sym c.sound.ensures ∙ c.if-not-sound.false

pub lay_proof-requires : goal.lay_proof-requires
lay_proof-requires c =
    let f = (proof_fine (ledger_of c.args.rec.now) (length c.args.buffer.now) c.args.slot.0 c.args.block (sym c.judge_proof.ensures ∙ c.in_ok-judge_proof.was)) in
    record { sound = (sym c.sound.ensures ∙ c.if-not-sound.false); slot = f.slot; final = f.final; room = f.room }

pub returns-in_err-judge_proof : goal.returns-in_err-judge_proof
returns-in_err-judge_proof c =
    let e : c.from_residual.result ≡ Err c.in_err-judge_proof.field-0.0 = search rules in
    rw e (writes_refused _ _ c.args.buffer.now _ (proof_judged c.args.rec.now (length c.args.buffer.now) c.args.slot.0 c.args.block _ (sym c.sound.ensures ∙ c.if-not-sound.false) (sym c.in_err-judge_proof.was ∙ c.judge_proof.ensures)))

pub returns : goal.returns
returns c =
    writes_laid _ _ (proof_judged c.args.rec.now (length c.args.buffer.now) c.args.slot.0 c.args.block (Ok tt) (sym c.sound.ensures ∙ c.if-not-sound.false) (sym c.in_ok-judge_proof.was ∙ c.judge_proof.ensures)) c.lay_proof.ensures
