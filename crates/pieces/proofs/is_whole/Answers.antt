-- What a piece looks at, then the table and the bytes past the kept ones.
use Rattle.pieces.proofs.Runs.{all_blank}
use Rattle.pieces.proofs.Tests.{ready_words, ready_bytes, ready_within, whole_unready, whole_fresh, whole_decided}
use mathlib.Core.Path.{◌∙◌, sym}
use native.Mathlib.Omega.{arith}
use Rattle.pieces.proofs.is_whole.Goals as goal

pub returns-then-not-is_ready : goal.returns-then-not-is_ready
returns-then-not-is_ready c = whole_unready _ _ (sym c.is_ready.ensures ∙ c.if-not-is_ready.true)

pub bounds-words-0 : goal.bounds-words-0
bounds-words-0 c = omega (arith, ready_words _ _ (sym c.is_ready.ensures ∙ c.if-not-is_ready.false))

pub returns-then-words-eq0 : goal.returns-then-words-eq0
returns-then-words-eq0 c =
    whole_fresh _ _ (sym c.is_ready.ensures ∙ c.if-not-is_ready.false) c.if-words-eq0.true

pub bounds-words-0-2 : goal.bounds-words-0-2
bounds-words-0-2 c = omega (arith, ready_words _ _ (sym c.is_ready.ensures ∙ c.if-not-is_ready.false))

pub holds_table-requires : goal.holds_table-requires
holds_table-requires c = ready_words _ _ (sym c.is_ready.ensures ∙ c.if-not-is_ready.false)

pub slice_bounds-all_are-count : goal.slice_bounds-all_are-count
slice_bounds-all_are-count c =
    omega (arith, ready_bytes _ _ (sym c.is_ready.ensures ∙ c.if-not-is_ready.false), ready_within _ _ (sym c.is_ready.ensures ∙ c.if-not-is_ready.false) c.if-words-eq0.false)

pub slice_bounds-all_are-start : goal.slice_bounds-all_are-start
slice_bounds-all_are-start c =
    omega (arith, ready_bytes _ _ (sym c.is_ready.ensures ∙ c.if-not-is_ready.false), ready_within _ _ (sym c.is_ready.ensures ∙ c.if-not-is_ready.false) c.if-words-eq0.false)

pub returns : goal.returns
returns c =
    whole_decided c.args.words.now c.args.front.now _ _ (sym c.is_ready.ensures ∙ c.if-not-is_ready.false) c.if-words-eq0.false c.holds_table.ensures (c.all_are.ensures ∙ all_blank _)
