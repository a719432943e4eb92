-- Stored votes, then kept certificates.
use native.Mathlib.Omega.{arith}
use Rattle.record.specs.Layout.{ledger_of}
use Rattle.vouching.proofs.Laws.{cell_upto, slot_put}
use Rattle.vouching.proofs.put_slot.Goals as goal

pub put_places-requires : goal.put_places-requires
put_places-requires c =
    let cells = cell_upto _ _ _ _ c.put_cell-next.ensures in
    record {
      slot = c.requires.slot;
      room = omega (arith, cells, c.requires.room);
    }

pub returns : goal.returns
returns c =
    let a = c.args in
    slot_put (ledger_of a.one.now) (ledger_of a.two.now) a.s.0 _ _ _ c.own-m.ensures c.load_cell-c.ensures c.own_cell-d.ensures c.put_cell-next.ensures c.put_places.ensures
