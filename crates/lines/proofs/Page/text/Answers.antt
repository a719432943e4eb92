-- The loop over the bytes: those before the present one are put.
use mathlib.Core.Path.{refl}
use native.Mathlib.Omega.{arith}
use Rattle.lines.proofs.Composed.{no_byte, next_byte, last_byte}
use Rattle.lines.proofs.Page.text.Goals as goal

pub loop-b-init : goal.loop-b-init
loop-b-init c = no_byte _ c.args.text.now

pub loop-b-preserved : goal.loop-b-preserved
loop-b-preserved c = next_byte c.args.text.now _ _ (omega (arith, c.loop-b-test.true)) refl c.loop-b.invariant c.byte.ensures

pub returns : goal.returns
returns c = last_byte _ c.loop-b.b-index (omega arith) c.loop-b.invariant
