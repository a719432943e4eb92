-- Counted with an empty part of the list, which comes back as it was; then too short, none, or all of them.
use Rattle.differences.proofs.Rows.{all_cramped, all_nothing, all_whole}
use Rattle.differences.proofs.list_all.Goals as goal

pub returns-then-list-needed : goal.returns-then-list-needed
returns-then-list-needed g c n ws five h =
    all_cramped n ws c.args.list.now five c.put-needed.new.arg2 c.put-needed.auto.arg2 (h _ _ _ c.put-needed.ensures).0 c.if-list-needed.true

pub returns-then-needed-eq0 : goal.returns-then-needed-eq0
returns-then-needed-eq0 g c n ws five h =
    all_nothing n ws c.args.list.now five c.put-needed.new.arg2 c.put-needed.auto.arg2 (h _ _ _ c.put-needed.ensures).0 c.if-needed-eq0.true

pub returns : goal.returns
returns g c n ws five h =
    let e = h _ _ _ c.put.ensures in
    all_whole n ws c.args.list.now five c.put-needed.new.arg2 c.put-needed.auto.arg2 (h _ _ _ c.put-needed.ensures).0 c.if-list-needed.false e.0 e.1
