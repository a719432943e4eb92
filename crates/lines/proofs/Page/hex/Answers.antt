-- The loop over the bytes: the pairs of those before the present one are put.
use mathlib.Core.Path.{refl, sym, ◌∙◌}
use borrow.Author.Tests.{eqb-true, eqb-false}
use native.Mathlib.Omega.{arith}
use Rattle.lines.proofs.Composed.{dash, no_pair, next_pair, last_pair}
use Rattle.lines.proofs.Page.hex.Goals as goal

pub returns-then-is_empty : goal.returns-then-is_empty
returns-then-is_empty c = dash _ (eqb-true _ 0 (sym c.is_empty.ensures ∙ c.if-is_empty.true)) c.byte.ensures

pub loop-b-init : goal.loop-b-init
loop-b-init c = no_pair _ c.args.bytes.now

pub loop-b-preserved : goal.loop-b-preserved
loop-b-preserved c = next_pair c.args.bytes.now _ _ refl c.loop-b.invariant c.pair.ensures

pub returns : goal.returns
returns c = last_pair _ c.loop-b.b-index (eqb-false _ 0 (sym c.is_empty.ensures ∙ c.if-is_empty.false)) (omega arith) c.loop-b.invariant
