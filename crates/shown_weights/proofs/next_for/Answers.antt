-- The certificates held so far tell the next.
use mathlib.Core.Path.{sym, ◌∙◌}
use mathlib.Core.Bool.{true, false}
use Rattle.shown_weights.proofs.Laws.{next_fast, next_notar_lem, next_fallback}
use Rattle.shown_weights.proofs.next_for.Goals as goal

pub returns-then-held_in : goal.returns-then-held_in
returns-then-held_in c = next_fast _ _ _ (sym c.held_in.ensures ∙ c.if-held_in.true)

pub returns-then-held_in-2 : goal.returns-then-held_in-2
returns-then-held_in-2 c =
    next_notar_lem _ _ _ (sym c.held_in.ensures ∙ c.if-held_in.false) (sym c.held_in-2.ensures ∙ c.if-held_in-2.true)

pub returns : goal.returns
returns c =
    next_fallback _ _ _ (sym c.held_in.ensures ∙ c.if-held_in.false) (sym c.held_in-2.ensures ∙ c.if-held_in-2.false)
