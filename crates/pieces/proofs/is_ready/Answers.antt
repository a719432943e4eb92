-- The size, then the mark; where it is 0, the whole state.
use Rattle.pieces.proofs.Runs.{all_blank}
use Rattle.pieces.proofs.Tests.{sized_says, ready_unsized, ready_begun, ready_fresh}
use mathlib.Core.Bool.{◌&&◌}
use mathlib.Core.Path.{◌∙◌, ap₂, sym}
use native.Mathlib.Omega.{arith}
use Rattle.pieces.proofs.is_ready.Goals as goal

pub returns-then-not-is_sized : goal.returns-then-not-is_sized
returns-then-not-is_sized c = ready_unsized _ _ (sym c.is_sized.ensures ∙ c.if-not-is_sized.true)

pub bounds-words-0 : goal.bounds-words-0
bounds-words-0 c = omega (arith, (sized_says _ _ (sym c.is_sized.ensures ∙ c.if-not-is_sized.false)).0)

pub bounds-words-0-then-words-ne0 : goal.bounds-words-0-then-words-ne0
bounds-words-0-then-words-ne0 c = omega (arith, (sized_says _ _ (sym c.is_sized.ensures ∙ c.if-not-is_sized.false)).0)

pub returns-then-words-ne0 : goal.returns-then-words-ne0
returns-then-words-ne0 c =
    ready_begun _ _ (sym c.is_sized.ensures ∙ c.if-not-is_sized.false) c.if-words-ne0.true

pub returns : goal.returns
returns c =
    ap₂ ◌&&◌ (c.all_are.ensures ∙ all_blank _) (c.all_are-2.ensures ∙ all_blank _) ∙ ready_fresh _ _ (sym c.is_sized.ensures ∙ c.if-not-is_sized.false) c.if-words-ne0.false
