-- Nothing where it is held, else what the votes lack.
use mathlib.Core.Path.{◌∙◌, sym}
use Prim.Native.Nat.{◌-◌}
use Rattle.rule_laws.proofs.ToolLaws.{choose_on, choose_off}
use Rattle.shown_weights.specs.Weights.{short_of}
use Rattle.shown_weights.proofs.short_of.Goals as goal

pub returns-then-held_in : goal.returns-then-held_in
unfolding short_of
returns-then-held_in c = sym (choose_on _ _ _ (sym c.held_in.ensures ∙ c.if-held_in.true))

pub returns : goal.returns
unfolding short_of
returns c = c.missing_in.ensures ∙ sym (choose_off _ _ _ (sym c.held_in.ensures ∙ c.if-held_in.false))
