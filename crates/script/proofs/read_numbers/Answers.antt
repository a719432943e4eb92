-- The loop over words: what is read so far and the words ahead make the whole. Each turn passes at least one byte, so there are no
-- more numbers than bytes.
use borrow.Author.Rules.{rules}
use Rattle.std.specs.Prelude.{Err}
use mathlib.Core.Path.{◌≡◌, refl, sym, ◌∙◌}
use native.Mathlib.Omega.{arith}
use Rattle.script.proofs.Reading.{numbers_end, turn_none, turn_bad, turn_more, read_in, read_start}
use Rattle.script.proofs.read_numbers.Goals as goal

pub loop-place-init : goal.loop-place-init
loop-place-init c = (read_start _ _ _, omega arith, refl)

pub returns-then-to-from : goal.returns-then-to-from
returns-then-to-from c =
    read_in _ _ _ _ _ (c.loop-place.invariant.0 ∙ turn_none _ _ _ _ c.word_at-from.result c.word_at-from.ensures c.loop-place-test.true (omega (arith, c.loop-place.invariant.1, c.loop-place-test.true)) c.if-to-from.true) c.loop-place.invariant.2

pub returns-in_err-v : goal.returns-in_err-v
returns-in_err-v c =
    let e : c.from_residual.result ≡ Err (record { before = c.loop-place.count }) = search rules in
    rw e (read_in _ _ _ _ _ (c.loop-place.invariant.0 ∙ turn_bad _ _ _ _ c.word_at-from.result c.word_at-from.ensures c.loop-place-test.true (omega (arith, c.loop-place.invariant.1, c.loop-place-test.true)) (omega (arith, c.if-to-from.false)) (sym c.in_err-v.ensures.ok_part ∙ c.read_decimal.ensures)) c.loop-place.invariant.2)

pub loop-place-preserved : goal.loop-place-preserved
loop-place-preserved c = (
  c.loop-place.invariant.0 ∙ turn_more _ _ _ _ c.word_at-from.result c.word_at-from.ensures c.loop-place-test.true (omega (arith, c.loop-place.invariant.1, c.loop-place-test.true)) _ _ (omega (arith, c.if-to-from.false)) (sym c.in_ok-v.ensures.ok_part ∙ c.read_decimal.ensures) c.put_word.ensures,
  omega (arith, c.if-to-from.false, c.word_at-from.ensures.from.low, c.loop-place.invariant.1),
  c.put_word.auto.words ∙ c.loop-place.invariant.2,
)

pub returns : goal.returns
returns c =
    read_in _ _ _ _ _ (c.loop-place.invariant.0 ∙ numbers_end _ _ _ _ _ (omega (arith, c.loop-place-test.false))) c.loop-place.invariant.2
