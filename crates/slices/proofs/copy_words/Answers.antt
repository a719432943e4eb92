-- The loop over the words: those before the present one are copied.
use mathlib.Core.Path.{refl, ap, ◌∙◌}
use mathlib.Core.List.{List}
use Prim.Native.Nat.{ℕ, ◌-◌}
use native.Mathlib.Omega.{arith}
use lib.ListN.{set, get_or}
use Rattle.slices.proofs.Laws.{copied, copy_next, copy_all}
use Rattle.slices.proofs.copy_words.Goals as goal

pub loop-i-init : goal.loop-i-init
loop-i-init c = (refl, omega arith, refl, refl)

pub loop-i-preserved : goal.loop-i-preserved
loop-i-preserved c =
    (c.put_word.ensures ∙ ap (λ (l : List ℕ). set l c.loop-i.i (get_or c.args.from.now c.loop-i.i 0)) c.loop-i.invariant.0 ∙ copy_next _ c.args.from.now c.loop-i.i _ (omega (arith, c.loop-i-test.true, c.loop-i.invariant.2)) refl, omega (arith, c.loop-i-test.true, c.loop-i.invariant.2), c.loop-i.invariant.2, c.put_word.auto.words ∙ c.loop-i.invariant.3)

pub returns : goal.returns
returns c =
    c.loop-i.invariant.0 ∙ copy_all _ _ c.loop-i.i (omega (arith, c.loop-i-test.false, c.loop-i.invariant.1, c.loop-i.invariant.2))
