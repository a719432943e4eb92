-- Rule E's first test: each part as the record has it.
use mathlib.Core.Bool.{not, ◌&&◌, ◌||◌}
use mathlib.Core.Path.{◌∙◌, ap}
use Rattle.rulebook.specs.Ledger.{none}
use Rattle.rulebook.specs.Rules.{may_skip_fallback}
use Rattle.rulebook.specs.declared.Cell.{Cell}
use Rattle.fallbacks.proofs.may_skip.Goals as goal

pub returns : goal.returns
returns c =
    let ec = c.own_cell-c.ensures in
    λ i. not (none (ec i).notar) && (c.window_open.ensures i || (c.may_skip_fallback.ensures ∙ ap (λ (x : Cell). may_skip_fallback x) ec) i)
