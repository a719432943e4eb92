-- A kept block is tested one way, an empty place the other.
use mathlib.Core.Bool.{not, ◌&&◌, Bool}
use mathlib.Core.Path.{◌∙◌, ap, sym}
use borrow.Author.Tests.{eq-eqb, ne_eqb}
use Rattle.rule_laws.proofs.ToolLaws.{given_on, given_off}
use Rattle.rulebook.specs.WellFormed.{kept_fits}
use Rattle.rulebook.specs.Ledger.{none}
use Rattle.soundness.proofs.kept_fits.Goals as goal

pub returns-then-b-ne0 : goal.returns-then-b-ne0
unfolding kept_fits
returns-then-b-ne0 c =
    ap (λ (x : Bool). not (none c.args.b.parent) && not x) c.bad_parent-bad.ensures ∙ sym (given_on _ _ _ (ap not (ne_eqb _ _ c.if-b-ne0.true)))

pub returns-else-b-ne0 : goal.returns-else-b-ne0
unfolding kept_fits
returns-else-b-ne0 c = sym (given_off _ _ _ (ap not (eq-eqb _ _ c.if-b-ne0.false)))
