-- Nothing of one block; else a line for each side.
use mathlib.Core.Path.{sym, ◌∙◌}
use native.Mathlib.Omega.{arith}
use Rattle.same_parents.proofs.Laws.{pair_none, pair_put}
use Rattle.same_parents.proofs.put_pair.Goals as goal

pub returns-then-one_block : goal.returns-then-one_block
returns-then-one_block c = let a = c.args in pair_none a.s.0 a.a a.b (sym c.one_block.ensures ∙ c.if-one_block.true)

pub put_line-requires : goal.put_line-requires
put_line-requires c = omega (arith, c.put_line-next.ensures.many, c.requires)

pub returns : goal.returns
returns c =
    let a = c.args in
    pair_put a.s.0 a.a a.b (sym c.one_block.ensures ∙ c.if-one_block.false) c.put_line-next.ensures c.put_line.ensures
