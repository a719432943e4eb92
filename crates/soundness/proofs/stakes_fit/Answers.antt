-- The record's stakes make a table; its total is compared.
use mathlib.Core.Path.{◌∙◌, ap, sym}
use native.Mathlib.Omega.{arith}
use Rattle.stakes.specs.Table.{made_of}
use Rattle.record.specs.Layout.{ledger_of}
use Rattle.soundness.proofs.Laws.{stakes_judged, stakes_unfit, stakes_many}
use Rattle.soundness.proofs.stakes_fit.Goals as goal

pub returns-then-places_in-count : goal.returns-then-places_in-count
returns-then-places_in-count c =
    sym (stakes_many (ledger_of c.args.rec.now) _ (omega (arith, c.count.ensures, c.places_in.ensures)))

pub stakes_of-requires : goal.stakes_of-requires
stakes_of-requires c = record { long = c.requires; few = omega (arith, c.count.ensures, c.places_in.ensures) }

pub returns-in-Some : goal.returns-in-Some
returns-in-Some c =
    let ws = c.args.rec.now in
    stakes_judged (ledger_of ws) c.in-Some.table _ (omega (arith, c.count.ensures, c.places_in.ensures)) (c.in-Some.ensures ∙ ap made_of c.stakes_of.ensures) c.total.ensures

pub returns-in-None : goal.returns-in-None
returns-in-None c =
    let ws = c.args.rec.now in
    stakes_unfit (ledger_of ws) (omega (arith, c.count.ensures, c.places_in.ensures)) (c.in-None.ensures ∙ ap made_of c.stakes_of.ensures)
