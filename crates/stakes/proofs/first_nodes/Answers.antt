-- `first_nodes` answers `first_nodes`: one bit shifted up, less one. Assumes nothing.
use Rattle.std.proofs.Common.{sym, pow_pos, rules}
use Rattle.stakes.proofs.Laws.{one_up, first_all, first_some}
use Rattle.stakes.proofs.first_nodes.Goals as goal

pub returns-then-count-ge64 : goal.returns-then-count-ge64
returns-then-count-ge64 c = sym (first_all c.args.count c.if-count-ge64.true)

pub overflow_sub-result : goal.overflow_sub-result
overflow_sub-result c = rw (one_up c.args.count c.if-count-ge64.false) (pow_pos c.args.count)

pub returns : goal.returns
returns c = rw (one_up c.args.count c.if-count-ge64.false) (sym (first_some c.args.count (search rules)))
