-- Each way out: a refusal of the two records, or the lines.
use Rattle.std.specs.Prelude.{◌≡◌, Err}
use Rattle.std.proofs.Common.{rules}
use mathlib.Core.Path.{◌∙◌, sym}
use Rattle.vouching.proofs.Laws.{comparable_fine, two_refused, two_told}
use Rattle.same_parents.specs.Parents.{parents_on}
use Rattle.same_parents.proofs.Laws.{asked}
use Rattle.same_parents.proofs.same_parents.Goals as goal

pub returns-in_err-comparable : goal.returns-in_err-comparable
unfolding parents_on
returns-in_err-comparable c =
    let a = c.args in
    let e : c.from_residual.result ≡ Err c.in_err-comparable.field-0.0 = search rules in
    rw e (two_refused a.one.now a.two.now a.list.now (asked a.one.now a.two.now a.list.now) _ (sym c.comparable.ensures ∙ c.in_err-comparable.was))

pub list_twice-requires : goal.list_twice-requires
list_twice-requires c = (comparable_fine _ _ (sym c.comparable.ensures ∙ c.in_ok-comparable.was)).sounds

pub returns : goal.returns
unfolding parents_on
returns c =
    let a = c.args in
    two_told a.one.now a.two.now a.list.now (asked a.one.now a.two.now a.list.now) (comparable_fine _ _ (sym c.comparable.ensures ∙ c.in_ok-comparable.was)) c.list_twice.ensures
