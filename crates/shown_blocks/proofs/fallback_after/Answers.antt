-- The three places, last first.
use mathlib.Core.Path.{◌∙◌, ap}
use Prim.Native.Nat.{◌-◌}
use lib.Dec.{ltb}
use Rattle.rulebook.specs.Tools.{lower, lowest}
use Rattle.shown_blocks.proofs.fallback_after.Goals as goal

pub returns : goal.returns
unfolding lowest
returns c =
    let a = c.args in
    c.comes_next.ensures ∙ ap (lower (ltb a.after a.c.fallback1) a.c.fallback1) (c.comes_next-second.ensures ∙ ap (lower (ltb a.after a.c.fallback2) a.c.fallback2) c.comes_next-third.ensures)
