-- What is missing to a fifth of the total.
use mathlib.Core.Path.{◌∙◌, sym}
use Rattle.rulebook.specs.Pool.{weighs}
use Rattle.rulebook.specs.Weights.{reaches}
use Rattle.rule_laws.proofs.WeightLaws.{reaches_found}
use Rattle.shown_heavy.specs.Heavy.{is_heavy}
use Rattle.shown_heavy.proofs.is_heavy.Goals as goal

pub returns : goal.returns
unfolding is_heavy weighs
returns c =
    sym (reaches_found _ _ _ _ c.missing-missing.ensures) ∙ (λ i. reaches 1 (c.total-total.ensures i) (c.weigh-weight.ensures i))
