-- The block goes to the first free place; where there is none the ledger is as it was.
use mathlib.Core.Path.{◌∙◌, sym}
use native.Mathlib.Omega.{arith}
use Rattle.record.specs.Layout.{ledger_of}
use Rattle.record.proofs.Reading.{ledger_shaped}
use Rattle.record.proofs.BlockPlaces.{kept_at, kept_within, kept_nowhere}
use Rattle.record.proofs.keep_block.Goals as goal

pub store_block-requires : goal.store_block-requires
store_block-requires c =
    let a = c.args in
    record {
      long = c.requires.long;
      slot = c.requires.slot;
      place = omega (arith, (ledger_shaped a.rec.now).blocks a.s.0 c.requires.slot, kept_within (ledger_of a.rec.now) a.s.0 a.b _ (sym c.in-Some.is ∙ c.free_place.ensures));
    }

pub returns-in-Some : goal.returns-in-Some
returns-in-Some c =
    let a = c.before.args in
    c.store_block.ensures ∙ kept_at (ledger_of a.rec.now) a.s.0 a.b _ (sym c.in-Some.is ∙ c.free_place.ensures)

pub returns-in_default : goal.returns-in_default
returns-in_default c =
    kept_nowhere (ledger_of c.args.rec.now) c.args.s.0 c.args.b (sym c.in_default.is ∙ c.free_place.ensures)
