-- Not after it, the best is lower, and the block.
use mathlib.Core.Path.{◌∙◌, ap, sym}
use mathlib.Core.Bool.{Bool}
use Prim.Native.Nat.{◌-◌}
use native.Mathlib.Omega.{arith}
use lib.Dec.{ltb}
use borrow.Author.Tests.{le-ltb, lt-ltb}
use Rattle.rulebook.specs.Tools.{lower}
use Rattle.rule_laws.proofs.LowestLaws.{lower_off, lower_stays, lower_goes}
use Rattle.shown_blocks.proofs.comes_next.Goals as goal

pub returns-then-b-after : goal.returns-then-b-after
returns-then-b-after c =
    let a = c.args in sym (ap (λ (x : Bool). lower x a.b a.best) (le-ltb a.after a.b (omega arith)) ∙ lower_off a.b a.best)

pub returns-then-best-b : goal.returns-then-best-b
returns-then-best-b c =
    let a = c.args in sym (lower_stays (ltb a.after a.b) a.b a.best (lt-ltb a.after a.b (omega arith)) c.if-best-b.true)

pub returns : goal.returns
returns c =
    let a = c.args in sym (lower_goes (ltb a.after a.b) a.b a.best (lt-ltb a.after a.b (omega arith)) c.if-best-b.false)
