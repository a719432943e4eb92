-- What is left of the total: those that name some block among the nodes looked at, and all behind them.
use native.Mathlib.Omega.{arith}
use Rattle.parents.proofs.FewLaws.{needed_within, left_begun, left_short, left_enough}
use Rattle.parents.proofs.enough_named.Goals as goal

pub loop-n-init : goal.loop-n-init
loop-n-init c =
    let t = c.total-all.ensures in
    (needed_within c.requires.table _ _ t c.missing-needed.ensures, left_begun c.requires.table c.args.p.0 _ t)

pub left_behind-left-requires : goal.left_behind-left-requires
left_behind-left-requires c =
    record { weighing = c.requires; node = omega (arith, c.count-nodes.ensures); begun = c.loop-n.invariant.1 }

pub returns-then-left-needed : goal.returns-then-left-needed
returns-then-left-needed c =
    left_short c.requires.table c.args.p.0 _ _ _ _ c.left_behind-left.ensures c.total-all.ensures c.missing-needed.ensures c.if-left-needed.true

pub loop-n-preserved : goal.loop-n-preserved
loop-n-preserved c = (omega (arith, c.if-left-needed.false), c.left_behind-left.ensures)

pub returns : goal.returns
returns c =
    let k = c.loop-n in
    left_enough c.requires.table c.args.p.0 k.n _ _ _ k.invariant.1 (omega (arith, k.invariant.1.few, c.count-nodes.ensures)) c.total-all.ensures c.missing-needed.ensures k.invariant.0
