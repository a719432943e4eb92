-- The settling loop: its memory holds a state that the run goes through, and the potential falls with every turn.
use Rattle.run.proofs.ScanLaws.{settling_start, settling_more, settling_less, settling_done, under_way, bounds_scanned}
use Rattle.run.proofs.settle_with.Goals as goal

pub loop-made-init : goal.loop-made-init
loop-made-init c = (settling_start c.requires.0.live, c.requires.1)

pub scan_slots-next-requires : goal.scan_slots-next-requires
scan_slots-next-requires c = (under_way c.requires.0.table c.loop-made.invariant.0.held, c.loop-made.invariant.1)

pub loop-made-smaller : goal.loop-made-smaller
loop-made-smaller c = settling_less c.loop-made.invariant.0 c.scan_slots-next.ensures c.if-next-made.false

pub loop-made-preserved : goal.loop-made-preserved
loop-made-preserved c =
    let k = c.loop-made.invariant in
    let q = c.scan_slots-next in
    (settling_more k.0 q.ensures q.auto.outbox c.if-next-made.false, bounds_scanned k.0.held.live q.ensures c.args.looks.now k.1)

pub returns : goal.returns
returns c = settling_done c.loop-made.invariant.0 c.scan_slots-next.ensures c.if-next-made.true
