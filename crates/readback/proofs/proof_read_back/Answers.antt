-- What the proof writer lays is a packet that the checker accepts.
use Rattle.std.specs.Prelude.{Err}
use Rattle.std.proofs.Common.{rules}
use mathlib.Core.Path.{◌≡◌, sym, refl, ◌∙◌}
use lib.ListN.{length}
use Rattle.soundness.proofs.Laws.{sound_counted}
use Rattle.readback.proofs.Words.{proof_sound, proof_inside, proof_back, refused_back}
use Rattle.readback.proofs.proof_read_back.Goals as goal

pub stakes_of-requires : goal.stakes_of-requires
stakes_of-requires c =
    sound_counted c.args.rec.now (proof_sound c.args.rec.now (length c.args.buffer.now) c.args.slot.0 c.args.block _ (sym c.write_proof.ensures.answered ∙ c.in_ok-n.was))

pub slice_bounds-check_proof-end : goal.slice_bounds-check_proof-end
slice_bounds-check_proof-end c =
    proof_inside c.args.rec.now c.args.buffer.now c.args.slot.0 c.args.block _ c.write_proof.ensures c.in_ok-n.was

pub returns-in_err-n : goal.returns-in_err-n
returns-in_err-n c =
    let e : c.from_residual.result ≡ Err c.in_err-n.field-0.0 = search rules in
    rw e (refused_back _ _ c.write_proof.ensures c.in_err-n.was)

pub returns : goal.returns
returns c =
    proof_back c.args.rec.now c.args.buffer.now c.args.slot.0 c.args.block _ c.ranges.block.fits c.write_proof.ensures c.in_ok-n.was c.stakes_of.ensures refl c.check_proof.ensures
