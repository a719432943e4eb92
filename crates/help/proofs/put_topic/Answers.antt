use mathlib.Core.Path.{refl}
use native.Mathlib.Omega.{arith}
use Rattle.help.proofs.Laws.{all_left, none_left, one_less, to_end}
use Rattle.help.proofs.put_topic.Goals as goal

pub loop-i-init : goal.loop-i-init
loop-i-init c = all_left _ c.args.word.now c.args.text.now

pub loop-i-preserved : goal.loop-i-preserved
loop-i-preserved c =
    one_less c.args.word.now c.args.text.now c.loop-i.fresh c.loop-i.on c.loop-i.i _ _ (omega arith) (to_end c.args.text.now c.loop-i.i _ refl) c.opens-on.ensures c.put_told.ensures c.loop-i.invariant

pub returns : goal.returns
returns c = none_left c.args.word.now c.args.text.now c.loop-i.fresh c.loop-i.on c.loop-i.i (omega arith) c.loop-i.invariant
