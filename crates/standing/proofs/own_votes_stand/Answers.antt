-- 17, or the list.
use mathlib.Core.Path.{◌∙◌, sym}
use Rattle.standing.proofs.Laws.{bad_told, good_told}
use Rattle.standing.proofs.own_votes_stand.Goals as goal

pub returns-then-not-sound : goal.returns-then-not-sound
returns-then-not-sound c =
    let a = c.args in
    let tested = c.sound in
    bad_told a.rec.now a.list.now (sym tested.ensures ∙ c.if-not-sound.true)

pub list_fallen-requires : goal.list_fallen-requires
list_fallen-requires c = let tested = c.sound in sym tested.ensures ∙ c.if-not-sound.false

pub returns : goal.returns
returns c =
    let a = c.args in
    let tested = c.sound in
    good_told a.rec.now a.list.now (sym tested.ensures ∙ c.if-not-sound.false) c.list_fallen.ensures
