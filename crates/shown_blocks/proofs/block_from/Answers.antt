-- 0 is no block, so nothing is taken from it.
use mathlib.Core.Path.{◌≡◌, ◌∙◌, ap}
use Prim.Native.Nat.{◌-◌}
use native.Mathlib.Omega.{arith}
use Rattle.shown.specs.Shown.{ledger_in}
use Rattle.shown_blocks.specs.Blocks.{block_after, block_from}
use Rattle.shown_blocks.proofs.block_from.Goals as goal

pub returns-then-from-eq0 : goal.returns-then-from-eq0
unfolding block_from
returns-then-from-eq0 c =
    let a = c.args in
    let e : 0 ≡ a.from - 1 = omega arith in c.block_after.ensures ∙ ap (block_after (ledger_in a.rec.now) a.s.0) e

pub returns : goal.returns
unfolding block_from
returns c = c.block_after-2.ensures
