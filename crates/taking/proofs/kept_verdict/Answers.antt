-- 7 where a place keeps the same; else 8 where none has room.
use mathlib.Core.Path.{◌∙◌, sym}
use Rattle.kept_places.proofs.Laws.{found_below, found_past}
use Rattle.taking.proofs.Accepted.{kept_repeat, kept_free, kept_full}
use Rattle.taking.proofs.kept_verdict.Goals as goal

pub returns-then-is_some : goal.returns-then-is_some
returns-then-is_some c =
    kept_repeat c.args.rec.now c.args.s.0 c.args.kind c.args.block c.requires.slot _ c.first_place.ensures.first (found_below _ 13 c.first_place.ensures.within (sym c.is_some.ensures ∙ c.if-is_some.true))

pub returns-then-is_some-2 : goal.returns-then-is_some-2
returns-then-is_some-2 c =
    kept_free c.args.rec.now c.args.s.0 c.args.kind c.args.block c.requires.slot _ _ c.first_place.ensures.first (found_past _ 13 (sym c.is_some.ensures ∙ c.if-is_some.false))
    c.first_place-2.ensures.first (found_below _ 13 c.first_place-2.ensures.within (sym c.is_some-2.ensures ∙ c.if-is_some-2.true))

pub returns : goal.returns
returns c =
    kept_full c.args.rec.now c.args.s.0 c.args.kind c.args.block c.requires.slot _ _ c.first_place.ensures.first (found_past _ 13 (sym c.is_some.ensures ∙ c.if-is_some.false))
    c.first_place-2.ensures.first (found_past _ 13 (sym c.is_some-2.ensures ∙ c.if-is_some-2.false))
