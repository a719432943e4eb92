-- The loop over the blocks: what is put, and what is left above the last, are all lines.
use Prim.Native.Nat.{◌+◌, ◌-◌}
use native.Mathlib.Omega.{arith}
use Rattle.difference_lines.specs.Lines.{vote_at, keeps, most_named}
use Rattle.differences.proofs.LineLaws.{over_start, over_next, over_early, over_last, line_most}
use Rattle.differences.proofs.put_blocks.Goals as goal

pub loop-i-init : goal.loop-i-init
loop-i-init c = let a = c.args in (over_start a.slot.0 a.node.0 a.c a.d a.kind, omega arith, omega arith)

pub returns-then-block-eq0 : goal.returns-then-block-eq0
returns-then-block-eq0 c = over_early c.loop-i.invariant.0 _ c.block_above-block.ensures c.if-block-eq0.true

pub put_vote-next-requires : goal.put_vote-next-requires
put_vote-next-requires c = omega (arith, c.loop-i.invariant.1, c.loop-i-test.true)

pub loop-i-preserved : goal.loop-i-preserved
loop-i-preserved c =
    let p = c.loop-i.invariant in
    let a = c.args in
    let b = c.block_above-block.result in
    let m = line_most (vote_at a.slot.0 a.node.0 a.kind b) (keeps a.c a.kind b) (keeps a.d a.kind b) in (
      over_next p.0 b (most_named - (c.loop-i.i + 1)) (omega (arith, c.loop-i-test.true)) c.block_above-block.ensures c.if-block-eq0.false c.put_vote-next.ensures,
      omega (arith, m, p.1, c.put_vote-next.ensures.many),
      omega (arith, c.loop-i-test.true),
    )

pub returns : goal.returns
returns c = over_last c.loop-i.invariant.0 (omega (arith, c.loop-i-test.false))
