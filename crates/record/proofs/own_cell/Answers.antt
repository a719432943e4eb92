-- The own cell is the cell of the own number, where that has one.
use mathlib.Core.Path.{◌∙◌, ap}
use native.Mathlib.Omega.{arith}
use Rattle.rulebook.specs.Ledger.{cell_at}
use Rattle.record.specs.Layout.{ledger_of}
use Rattle.record.proofs.Reading.{cell_past}
use Rattle.record.proofs.own_cell.Goals as goal

pub load_cell-requires : goal.load_cell-requires
load_cell-requires c =
    record { long = c.requires.long; slot = c.requires.slot; node = omega (arith, c.if-n-places_in.true, c.places_in.ensures) }

pub returns-then-n-places_in : goal.returns-then-n-places_in
returns-then-n-places_in c =
    let a = c.args in
    c.load_cell.ensures ∙ ap (cell_at (ledger_of a.rec.now) a.s.0) c.own-n.ensures

pub returns : goal.returns
returns c =
    cell_past c.args.rec.now c.args.s.0 _ c.requires (omega (arith, c.if-n-places_in.false, c.places_in.ensures, c.own-n.ensures))
