-- By votes, else by the first place that serves.
use mathlib.Core.Path.{◌∙◌, sym}
use Rattle.record.specs.Layout.{ledger_of}
use Rattle.record.proofs.Reading.{ledger_shaped}
use Rattle.kept_places.proofs.Laws.{is_found}
use Rattle.pool.proofs.HeldLaws.{reached_held, held_kept}
use Rattle.pool.proofs.held.Goals as goal

pub returns-then-reached : goal.returns-then-reached
returns-then-reached c =
    let a = c.args in
    c.if-reached.true ∙ sym (reached_held (ledger_of a.rec.now) a.kind a.s.0 a.b (sym c.reached.ensures ∙ c.if-reached.true))

pub returns-else-reached : goal.returns-else-reached
returns-else-reached c =
    let ws = c.args.rec.now in
    c.is_some.ensures
    ∙ is_found _ 13 c.first_place.ensures.within
    ∙ held_kept (ledger_of ws) c.args.kind c.args.s.0 c.args.b _ ((ledger_shaped ws).certificates c.args.s.0 c.requires.weighing.slot) (sym c.reached.ensures ∙ c.if-reached.false) c.first_place.ensures.first
