-- The own node, or one that names a block.
use mathlib.Core.Path.{ap, ◌∙◌}
use mathlib.Core.Bool.{◌||◌}
use lib.Dec.{eqb}
use Rattle.parents.specs.Naming.{names_some}
use Rattle.looks.specs.Looks.{is_beside}
use Rattle.looks.proofs.is_beside.Goals as goal

pub returns : goal.returns
unfolding is_beside
returns c =
    λ i. eqb c.args.n.0 (c.own-me.ensures i) || (c.names_some-named.ensures ∙ ap names_some c.load_cell.ensures) i
