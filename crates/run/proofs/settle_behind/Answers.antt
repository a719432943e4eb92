-- A later slot is stirred: all is asked. Else the vote's own slot, and all where a rule applied in it.
use Rattle.run.proofs.ScanLaws.{under_way, bounds_scanned, behind_tried, behind_scanned, behind_none, behind_some}
use Rattle.run.proofs.settle_behind.Goals as goal

pub ask_slot-made-requires : goal.ask_slot-made-requires
ask_slot-made-requires c = behind_tried c.requires.0 c.requires.2

pub returns-then-made-at : goal.returns-then-made-at
returns-then-made-at c =
    behind_none c.requires.0 c.requires.2 c.if-stirs.false c.ask_slot-made.ensures c.if-made-at.true

pub settle_with-requires-2 : goal.settle_with-requires-2
settle_with-requires-2 c =
    let h = c.requires in
    let asked = c.ask_slot-made.ensures in
    (under_way h.0.table asked, bounds_scanned h.0.live.live (behind_scanned h.0 h.2 c.if-stirs.false asked) c.args.looks.now h.1)

pub returns : goal.returns
returns c =
    behind_some c.requires.0 c.requires.2 c.if-stirs.false c.ask_slot-made.ensures c.if-made-at.false c.settle_with-2.ensures
