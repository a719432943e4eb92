-- Rule B's parent, in a first slot and in another.
use mathlib.Core.Bool.{◌&&◌}
use mathlib.Core.Path.{◌∙◌, ap, sym}
use Prim.Native.Nat.{◌-◌}
use lib.Dec.{eqb}
use Rattle.rulebook.specs.declared.Cell.{Cell}
use Rattle.record.specs.Layout.{ledger_of}
use Rattle.standing.proofs.Laws.{parent_first, parent_later}
use Rattle.standing.proofs.parent_fits.Goals as goal

pub returns-then-is_first : goal.returns-then-is_first
returns-then-is_first c =
    let a = c.args in c.ready.ensures ∙ parent_first (ledger_of a.rec.now) a.s.0 a.b (sym c.is_first.ensures ∙ c.if-is_first.true)

pub returns : goal.returns
returns c =
    let a = c.args in ap (λ (x : Cell). eqb a.b.parentslot.0 (a.s.0 - 1) && eqb x.notar a.b.parent) c.own_cell-before.ensures ∙ parent_later (ledger_of a.rec.now) a.s.0 a.b (sym c.is_first.ensures ∙ c.if-is_first.false)
