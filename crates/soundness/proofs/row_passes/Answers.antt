-- A row with nothing in it; row 0 with something in it; the parts of another.
use mathlib.Core.Path.{◌∙◌, sym}
use native.Mathlib.Omega.{arith}
use Rattle.record.specs.Layout.{ledger_of}
use Rattle.soundness.proofs.Blank.{blank_passes, first_filled, later_passes}
use Rattle.soundness.proofs.row_passes.Goals as goal

pub row_blank-requires : goal.row_blank-requires
row_blank-requires c = record { long = c.requires.headed.long; slot = c.requires.slot }

pub returns-then-row_blank : goal.returns-then-row_blank
returns-then-row_blank c =
    blank_passes (ledger_of c.args.rec.now) c.args.s.0 c.requires.headed.full (sym c.row_blank.ensures ∙ c.if-row_blank.true)

pub returns-then-s-eq0 : goal.returns-then-s-eq0
returns-then-s-eq0 c =
    first_filled (ledger_of c.args.rec.now) c.args.s.0 c.if-s-eq0.true (sym c.row_blank.ensures ∙ c.if-row_blank.false)

pub row_fits-requires : goal.row_fits-requires
row_fits-requires c =
    let a = c.requires in
    record { long = a.headed.long; later = omega (arith, c.if-s-eq0.false); slot = a.slot; table = a.headed.table; few = a.headed.few; full = a.headed.full }

pub returns : goal.returns
returns c =
    c.row_fits.ensures ∙ later_passes (ledger_of c.args.rec.now) c.args.s.0 (omega (arith, c.if-s-eq0.false))
