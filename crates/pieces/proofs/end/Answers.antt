-- The tests in their order, then the whole check and a state of zeros.
use Rattle.pieces.proofs.Ways.{end_broken, end_nothing, end_checked_lem}
use Rattle.pieces.proofs.Tests.{ready_words, ready_bytes, ready_within, whole_ready, whole_held, table_held}
use mathlib.Core.Path.{◌∙◌, sym}
use native.Mathlib.Omega.{arith}
use lib.Seq.{length-take-le}
use Rattle.pieces.proofs.end.Goals as goal

pub returns-then-not-is_whole : goal.returns-then-not-is_whole
returns-then-not-is_whole c = end_broken _ _ (sym c.is_whole.ensures ∙ c.if-not-is_whole.true)

pub bounds-words-0 : goal.bounds-words-0
bounds-words-0 c =
    omega (arith, ready_words _ _ (whole_ready _ _ (sym c.is_whole.ensures ∙ c.if-not-is_whole.false)))

pub returns-then-words-eq0 : goal.returns-then-words-eq0
returns-then-words-eq0 c =
    end_nothing _ _ (sym c.is_whole.ensures ∙ c.if-not-is_whole.false) c.if-words-eq0.true

pub bounds-words-0-2 : goal.bounds-words-0-2
bounds-words-0-2 c =
    omega (arith, ready_words _ _ (whole_ready _ _ (sym c.is_whole.ensures ∙ c.if-not-is_whole.false)))

pub bounds-words-1 : goal.bounds-words-1
bounds-words-1 c =
    omega (arith, ready_words _ _ (whole_ready _ _ (sym c.is_whole.ensures ∙ c.if-not-is_whole.false)))

pub overflow_add-past : goal.overflow_add-past
overflow_add-past c =
    omega (arith, (table_held _ (whole_held _ _ (sym c.is_whole.ensures ∙ c.if-not-is_whole.false) c.if-words-eq0.false).0).few)

pub slice_bounds-check_proof-end : goal.slice_bounds-check_proof-end
slice_bounds-check_proof-end c =
    omega (arith, (table_held _ (whole_held _ _ (sym c.is_whole.ensures ∙ c.if-not-is_whole.false) c.if-words-eq0.false).0).few, ready_words _ _ (whole_ready _ _ (sym c.is_whole.ensures ∙ c.if-not-is_whole.false)))

pub slice_bounds-check_proof-end-2 : goal.slice_bounds-check_proof-end-2
slice_bounds-check_proof-end-2 c =
    omega (arith, ready_bytes _ _ (whole_ready _ _ (sym c.is_whole.ensures ∙ c.if-not-is_whole.false)), ready_within _ _ (whole_ready _ _ (sym c.is_whole.ensures ∙ c.if-not-is_whole.false)) c.if-words-eq0.false)

pub slice_bounds-check_proof-end-3 : goal.slice_bounds-check_proof-end-3
slice_bounds-check_proof-end-3 c =
    let whole = sym c.is_whole.ensures ∙ c.if-not-is_whole.false in
    sym (length-take-le _ c.args.front.now
    (omega (arith, ready_bytes _ _ (whole_ready c.args.words.now c.args.front.now whole), ready_within _ _ (whole_ready c.args.words.now c.args.front.now whole) c.if-words-eq0.false)))

pub returns : goal.returns
returns c =
    end_checked_lem _ _ (sym c.is_whole.ensures ∙ c.if-not-is_whole.false) c.if-words-eq0.false c.check_proof-a.ensures (c.fill.ensures.after (λ y e. e)) (c.fill-2.ensures.after (λ y e. e))
