-- At the loop's head both sums are 0 exactly where the last words and those of the turns behind it are.
use mathlib.Core.Path.{refl}
use Prim.Native.Nat.{◌-◌}
use native.Mathlib.Omega.{arith}
use Rattle.blank_rows.proofs.Words.{no_turn, one_turn, turns_done}
use Rattle.blank_rows.proofs.all_none.Goals as goal

pub loop-k-init : goal.loop-k-init
loop-k-init c =
    (omega arith, no_turn c.args.words.now c.every_second-even.result c.every_second-odd.result _ refl c.every_second-even.ensures c.every_second-odd.ensures)

pub loop-k-preserved : goal.loop-k-preserved
loop-k-preserved c =
    let k = c.loop-k in
    (omega arith, one_turn _ k.k k.even k.odd c.every_second-even-in-loop-k.result c.every_second-odd-in-loop-k.result k.invariant.1 c.every_second-even-in-loop-k.ensures c.every_second-odd-in-loop-k.ensures)

pub returns : goal.returns
returns c =
    turns_done c.args.words.now c.loop-k.even c.loop-k.odd c.loop-k.k c.requires c.loop-k.invariant.1 (omega arith)
