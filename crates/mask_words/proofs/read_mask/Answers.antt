-- Each word that was read leads on to the next, and the first that was not decides.
use Rattle.std.specs.Prelude.{Err}
use borrow.Author.Rules.{rules}
use lib.ListN.{length}
use mathlib.Core.Path.{◌≡◌, sym, ◌∙◌}
use native.Mathlib.Omega.{arith}
use Rattle.mask_words.proofs.Words.{taken_none, taken_more, taken_fell, taken_all}
use Rattle.mask_words.proofs.read_mask.Goals as goal

pub loop-word-init : goal.loop-word-init
loop-word-init c = taken_none c.args.bytes.now c.args.mask.now c.args.at

pub returns-in_err-word : goal.returns-in_err-word
returns-in_err-word c =
    let l = c.loop-word in
    let s = c.args in
    let q : c.from_residual.result ≡ Err c.in_err-word.field-0.0 = search rules in
    rw q (taken_fell (length s.mask.now) s.bytes.now s.at l.mask l.word-index l.p l.invariant _ _ (omega arith) (sym c.in_err-word.ensures))

pub loop-word-preserved : goal.loop-word-preserved
loop-word-preserved c =
    let l = c.loop-word in
    let s = c.args in
    taken_more (length s.mask.now) s.bytes.now s.at l.mask l.word-index l.p l.invariant _ _ (omega arith) (sym c.take_number.ensures ∙ c.in_ok-word.was)

pub returns : goal.returns
returns c =
    let l = c.loop-word in
    let s = c.args in
    taken_all (length s.mask.now) s.bytes.now s.at l.mask l.word-index l.p l.invariant (omega arith)
