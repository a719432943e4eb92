-- Each way out: a refusal of the two records, a watcher, the lines.
use Rattle.std.specs.Prelude.{◌≡◌, Err}
use Rattle.std.proofs.Common.{rules}
use mathlib.Core.Path.{◌∙◌, sym}
use Rattle.soundness.proofs.Laws.{sound_long}
use Rattle.vouching.specs.Asked.{vouched_on}
use Rattle.vouching.proofs.Laws.{comparable_fine, two_refused, two_told, asked, watcher_told, firm_told}
use Rattle.vouching.proofs.vouched.Goals as goal

pub returns-in_err-comparable : goal.returns-in_err-comparable
unfolding vouched_on
returns-in_err-comparable c =
    let a = c.args in
    let e : c.from_residual.result ≡ Err c.in_err-comparable.field-0.0 = search rules in
    rw e (two_refused a.one.now a.two.now a.list.now (asked a.one.now a.two.now a.list.now) _ (sym c.comparable.ensures ∙ c.in_err-comparable.was))

pub is_watcher-requires : goal.is_watcher-requires
is_watcher-requires c = sound_long _ (comparable_fine _ _ (sym c.comparable.ensures ∙ c.in_ok-comparable.was)).sounds.second

pub returns-then-is_watcher : goal.returns-then-is_watcher
unfolding vouched_on
returns-then-is_watcher c =
    let a = c.args in
    two_told a.one.now a.two.now a.list.now (asked a.one.now a.two.now a.list.now) (comparable_fine _ _ (sym c.comparable.ensures ∙ c.in_ok-comparable.was))
    (watcher_told a.one.now a.two.now a.list.now (sym c.is_watcher.ensures ∙ c.if-is_watcher.true))

pub list_lacking-requires : goal.list_lacking-requires
list_lacking-requires c =
    record { alike = comparable_fine _ _ (sym c.comparable.ensures ∙ c.in_ok-comparable.was); firm = sym c.is_watcher.ensures ∙ c.if-is_watcher.false }

pub returns : goal.returns
unfolding vouched_on
returns c =
    let a = c.args in
    two_told a.one.now a.two.now a.list.now (asked a.one.now a.two.now a.list.now) (comparable_fine _ _ (sym c.comparable.ensures ∙ c.in_ok-comparable.was))
    (firm_told a.one.now a.two.now a.list.now (sym c.is_watcher.ensures ∙ c.if-is_watcher.false) c.list_lacking.ensures)
