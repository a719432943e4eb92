-- What the vote adds and the card are read first; then the cell is stored, and the changed card. Assumes nothing.
use native.Mathlib.Omega.{arith}
use Rattle.record.specs.Layout.{ledger_of}
use Rattle.record.proofs.Reading.{ledger_shaped}
use Rattle.record.proofs.Places.{long_same}
use Rattle.storing.proofs.Laws.{storing_slot, storing_placed, card_light, change_light, stored_is}
use Rattle.storing.proofs.store_vote.Goals as goal

pub load_card-card-requires : goal.load_card-card-requires
load_card-card-requires c = storing_slot c.requires

pub load_cell-c-requires : goal.load_cell-c-requires
load_cell-c-requires c = storing_placed c.requires

pub store_cell-requires : goal.store_cell-requires
store_cell-requires c = storing_placed c.requires

pub update-requires : goal.update-requires
update-requires c =
    (rw c.load_card-card.ensures (card_light c.requires), rw c.change_of-d.ensures (change_light c.requires c.args.k c.args.b))

pub store_card-requires : goal.store_card-requires
store_card-requires c =
    record { long = long_same c.args.rec.now _ c.store_cell.auto.rec c.requires.long; slot = (storing_slot c.requires).slot }

pub returns : goal.returns
returns c =
    let l = ledger_of c.args.rec.now in
    stored_is l (ledger_of c.store_cell.new.rec) _ c.args.s.0 c.args.n.0 c.args.k c.args.b c.load_cell-c.result c.with_vote.result
    c.load_card-card.result c.update.new.t c.change_of-d.result (omega (arith, c.requires.high, (ledger_shaped c.args.rec.now).rows))
    c.store_card.ensures c.store_cell.ensures c.with_vote.ensures c.load_cell-c.ensures
    c.update.ensures c.load_card-card.ensures c.change_of-d.ensures
