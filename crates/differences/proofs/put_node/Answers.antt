-- Equal cells have no line.
use Rattle.std.proofs.Common.{rules}
use Rattle.differences.proofs.LineLaws.{same_put}
use Rattle.differences.proofs.put_node.Goals as goal

pub returns-then-eq : goal.returns-then-eq
returns-then-eq c = let a = c.args in same_put a.slot.0 a.node.0 a.c a.d (search rules)
