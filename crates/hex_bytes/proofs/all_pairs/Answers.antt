-- The loop over pairs: all before the present one are digits.
use mathlib.Core.Path.{sym, ap, ◌∙◌}
use mathlib.Core.Bool.{not}
use native.Mathlib.Omega.{arith}
use Rattle.hex_bytes.specs.Bytes.{pairs_good}
use Rattle.hex_bytes.proofs.Pairs.{pairs_none, pairs_more, pairs_bad, pair_tells, pair_lacks}
use Rattle.hex_bytes.proofs.all_pairs.Goals as goal

pub loop-pair-init : goal.loop-pair-init
loop-pair-init c = pairs_none _

pub returns-then-is_none : goal.returns-then-is_none
returns-then-is_none c =
    let n = c.as_chunks.ensures.front_len in
    pairs_bad _ _ c.loop-pair.pair-index (pair_lacks _ _ c.loop-pair.pair-index c.as_chunks.ensures.front (omega arith) _ c.hex_pair.ensures (c.is_none.ensures ∙ ap not c.if-is_none.true)) (omega arith)

pub loop-pair-preserved : goal.loop-pair-preserved
loop-pair-preserved c =
    let n = c.as_chunks.ensures.front_len in
    pairs_more _ c.loop-pair.pair-index (pair_tells _ _ c.loop-pair.pair-index c.as_chunks.ensures.front (omega arith) _ c.hex_pair.ensures (c.is_none.ensures ∙ ap not c.if-is_none.false)) c.loop-pair.invariant

pub returns : goal.returns
returns c =
    let n = c.as_chunks.ensures.front_len in
    sym (ap (pairs_good _) (omega arith) ∙ c.loop-pair.invariant)
