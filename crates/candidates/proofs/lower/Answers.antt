-- The three ways.
use mathlib.Core.Bool.{Bool}
use mathlib.Core.Path.{◌∙◌, ap, sym}
use Rattle.rulebook.specs.Tools.{lower}
use Rattle.rule_laws.proofs.LowestLaws.{lower_off, lower_stays, lower_goes}
use Rattle.candidates.proofs.lower.Goals as goal

pub returns-then-not-passes : goal.returns-then-not-passes
returns-then-not-passes c =
    let a = c.args in sym (ap (λ (x : Bool). lower x a.b a.m) (c.if-not-passes.true) ∙ lower_off a.b a.m)

pub returns-then-m-b : goal.returns-then-m-b
returns-then-m-b c =
    let a = c.args in sym (lower_stays a.passes a.b a.m (c.if-not-passes.false) c.if-m-b.true)

pub returns : goal.returns
returns c =
    let a = c.args in sym (lower_goes a.passes a.b a.m (c.if-not-passes.false) c.if-m-b.false)
