-- The memory holds the state of the start while what was asked does not apply.
use Prim.Native.Nat.{◌-◌}
use native.Mathlib.Omega.{arith}
use Rattle.run.proofs.ScanLaws.{asking_start, asking_more, asking_found, asking_end, under_way, under_way_at, still_walked}
use Rattle.run.proofs.ask_slot.Goals as goal

pub loop-r-init : goal.loop-r-init
loop-r-init c = asking_start _ c.requires.under.live.live

pub rule-made-requires : goal.rule-made-requires
rule-made-requires c =
    let t = c.requires in
    let h = c.loop-r.invariant.going.held in
    record {
      under = under_way_at (under_way t.under.table h) t.under.live.low t.under.live.high;
      walked = still_walked _ _ _ h.moved.is t.walked;
    }

pub returns-then-made-at : goal.returns-then-made-at
returns-then-made-at c = asking_found c.loop-r.invariant (omega arith) c.rule-made.ensures c.if-made-at.true

pub loop-r-smaller : goal.loop-r-smaller
loop-r-smaller c = omega arith

pub loop-r-preserved : goal.loop-r-preserved
loop-r-preserved c =
    asking_more c.loop-r.invariant (omega arith) c.rule-made.ensures c.requires.under.live c.rule-made.auto.outbox c.if-made-at.false

pub returns : goal.returns
returns c = asking_end c.loop-r.invariant (omega arith)
