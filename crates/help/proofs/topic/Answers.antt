use Rattle.std.proofs.Common.{rules}
use Rattle.lines.proofs.Paging.{ended}
use Rattle.help.proofs.Laws.{no_topic, some_topic}
use Rattle.help.proofs.topic.Goals as goal

pub returns-then-used-eq0 : goal.returns-then-used-eq0
returns-then-used-eq0 c =
    no_topic _ _ c.used.result c.if-used-eq0.true (ended c.put_manual.ensures c.new-lines.ensures.same c.new-lines.ensures.front c.used.ensures (search rules)) c.malformed.ensures

pub returns : goal.returns
returns c =
    some_topic _ _ c.used.result c.if-used-eq0.false (ended c.put_manual.ensures c.new-lines.ensures.same c.new-lines.ensures.front c.used.ensures (search rules))
