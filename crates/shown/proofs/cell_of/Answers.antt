-- Words of another length, a slot or a node past the last, and the cell.
use mathlib.Core.Path.{◌∙◌, ap}
use Prim.Native.Nat.{◌-◌}
use native.Mathlib.Omega.{arith}
use Rattle.rulebook.specs.Ledger.{Ledger, cell_at}
use Rattle.shown.proofs.Laws.{short_cell, past_slot, past_node, whole_ledger, whole_long}
use mathlib.Core.Bool.{not}
use Rattle.shown.proofs.cell_of.Goals as goal

pub returns-then-not-is_long : goal.returns-then-not-is_long
returns-then-not-is_long c = short_cell c.args.rec.now _ c.is_long.ensures (ap not c.if-not-is_long.true) c.args.s.0 c.args.n.0

pub returns-then-s-gt-LAST_SLOT : goal.returns-then-s-gt-LAST_SLOT
returns-then-s-gt-LAST_SLOT c =
    past_slot c.args.rec.now _ c.is_long.ensures (ap not c.if-not-is_long.false) c.args.s.0 c.args.n.0 (omega arith)

pub returns-then-n-places_in : goal.returns-then-n-places_in
returns-then-n-places_in c =
    past_node c.args.rec.now _ c.is_long.ensures (ap not c.if-not-is_long.false) c.args.s.0 c.args.n.0 (omega arith) (omega (arith, c.places_in.ensures))

pub load_cell-requires : goal.load_cell-requires
load_cell-requires c =
    record { long = whole_long _ _ c.is_long.ensures (ap not c.if-not-is_long.false); slot = omega arith; node = omega (arith, c.places_in.ensures) }

pub returns : goal.returns
returns c =
    c.load_cell.ensures ∙ ap (λ (l : Ledger). cell_at l c.args.s.0 c.args.n.0) (whole_ledger c.args.rec.now _ c.is_long.ensures (ap not c.if-not-is_long.false))
