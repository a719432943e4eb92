-- The four places, last first.
use mathlib.Core.Path.{◌∙◌, ap}
use mathlib.Core.Bool.{Bool}
use Prim.Native.Nat.{ℕ}
use Rattle.rulebook.specs.Tools.{lower}
use Rattle.record.specs.Layout.{ledger_of}
use Rattle.shown_blocks.specs.Blocks.{lower_named}
use Rattle.shown_heavy.specs.Heavy.{heavy_past}
use Rattle.shown_heavy.proofs.heavy_named.Goals as goal

pub returns : goal.returns
unfolding lower_named
returns c =
    let a = c.args in
    let p : ℕ → Bool = heavy_past (ledger_of a.rec.now) a.s.0 a.after in
    c.heavy_next.ensures ∙ ap (lower (p a.c.notar) a.c.notar) (c.heavy_next-first.ensures
    ∙ ap (lower (p a.c.fallback1) a.c.fallback1) (c.heavy_next-second.ensures ∙ ap (lower (p a.c.fallback2) a.c.fallback2) c.heavy_next-third.ensures))
