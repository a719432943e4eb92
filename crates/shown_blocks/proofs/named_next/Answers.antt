-- The four places, last first.
use mathlib.Core.Path.{◌∙◌, ap}
use Prim.Native.Nat.{◌-◌}
use lib.Dec.{ltb}
use Rattle.rulebook.specs.Tools.{lower}
use Rattle.shown_blocks.specs.Blocks.{lower_named}
use Rattle.shown_blocks.proofs.named_next.Goals as goal

pub returns : goal.returns
unfolding lower_named
returns c =
    let a = c.args in
    c.comes_next.ensures ∙ ap (lower (ltb a.after a.c.notar) a.c.notar) (c.comes_next-first.ensures
    ∙ ap (lower (ltb a.after a.c.fallback1) a.c.fallback1) (c.comes_next-second.ensures ∙ ap (lower (ltb a.after a.c.fallback2) a.c.fallback2) c.comes_next-third.ensures))
