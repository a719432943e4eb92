use Rattle.std.proofs.Common.{rules, refl}
use Rattle.lines.proofs.Paging.{and_then, ended}
use Rattle.help.specs.Topics.{why_line}
use Rattle.help.proofs.why.Goals as goal

pub returns : goal.returns
unfolding why_line
returns c =
    (ended (and_then c.put_number.ensures (and_then c.put_refusal.ensures c.byte.ensures)) c.new-line.ensures.same c.new-line.ensures.front refl (search rules)).bytes
