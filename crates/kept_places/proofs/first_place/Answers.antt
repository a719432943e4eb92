-- None of the places before the one found is what is looked for, nor is a place for other kinds.
use mathlib.Core.Path.{◌≡◌, ◌∙◌, ap}
use mathlib.Core.Bool.{true, false}
use borrow.Author.Tests.{tests}
use Rattle.std.proofs.Common.{rules}
use Rattle.std.proofs.lemmas.Iterator.{first_from_Range}
use Rattle.rulebook.specs.Ledger.{certificates_at}
use Rattle.record.specs.Layout.{ledger_of}
use Rattle.record.proofs.Reading.{ledger_shaped}
use Rattle.kept_places.specs.Seeking.{from_place, to_place}
use Rattle.kept_places.proofs.Laws.{at_place, Found, first_found, found_within}
use Rattle.kept_places.proofs.first_place.Goals as goal
use Rattle.kept_places.proofs.first_place.Goals.{After-find}

found : (c : After-find) → Found c.args.sought c.places_for.result.start c.places_for.result.end (certificates_at (ledger_of c.args.rec.now) c.args.s.0) c.find.result
found c =
    let test = at_place c.args.sought (certificates_at (ledger_of c.args.rec.now) c.args.s.0) in
    first_from_Range _ _ _ c.find.result (λ j. test j ≡ true) (λ j. test j ≡ false) c.find.ensures.ran (λ x q k. search (rules, tests)) (λ x q k. search (rules, tests))

pub returns-clause-first : goal.returns-clause-first
returns-clause-first c =
    let a = c.args in
    first_found a.sought _ _ (c.places_for.ensures.from ∙ ap from_place c.kind_of.ensures) (c.places_for.ensures.to ∙ ap to_place c.kind_of.ensures) (certificates_at (ledger_of a.rec.now) a.s.0)
    ((ledger_shaped a.rec.now).certificates a.s.0 c.requires.slot) c.find.result (found c)

pub returns-clause-within : goal.returns-clause-within
returns-clause-within c =
    found_within c.args.sought _ _ (certificates_at (ledger_of c.args.rec.now) c.args.s.0) c.find.result c.places_for.ensures.within (found c)
