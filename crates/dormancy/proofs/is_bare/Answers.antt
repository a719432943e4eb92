-- Each part as the record has it.
use mathlib.Core.Bool.{◌&&◌}
use mathlib.Core.Path.{◌∙◌, ap}
use Rattle.rulebook.specs.declared.Cell.{Cell}
use Rattle.rulebook.specs.Ledger.{none, no_initial}
use Rattle.dormancy.specs.Dormant.{is_bare}
use Rattle.dormancy.proofs.is_bare.Goals as goal

pub returns : goal.returns
unfolding is_bare
returns c =
    let initial = c.no_initial.ensures ∙ ap (λ (x : Cell). no_initial x) c.own_cell.ensures in
    λ i. initial i && none (c.load_block-b.ensures i).number
