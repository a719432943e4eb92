-- Nothing behind an empty first place, else the three places of the own cell, joined.
use Rattle.record.specs.Layout.{ledger_of}
use Rattle.soundness.proofs.Laws.{own_none, own_joined}
use Rattle.soundness.proofs.own_fits.Goals as goal

pub own_cell-c-requires : goal.own_cell-c-requires
own_cell-c-requires c = let a = c.requires.carded.weighing in record { long = a.long; slot = a.slot }

pub returns-then-c-eq0 : goal.returns-then-c-eq0
returns-then-c-eq0 c =
    let a = c.args in
    own_none (ledger_of a.rec.now) a.s.0 c.own_cell-c.result c.own_cell-c.ensures c.requires.cell c.if-c-eq0.true

pub returns : goal.returns
returns c =
    let a = c.args in
    own_joined (ledger_of a.rec.now) a.s.0 c.own_cell-c.result _ _ _ c.own_cell-c.ensures c.backs-first.ensures c.backs-second.ensures c.backs-third.ensures
