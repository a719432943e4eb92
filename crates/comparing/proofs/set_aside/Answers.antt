-- Words that are no record, or the copy.
use mathlib.Core.Path.{sym, ◌∙◌}
use Rattle.comparing.proofs.Laws.{none_aside, put_aside}
use Rattle.comparing.proofs.set_aside.Goals as goal

pub returns-then-not-sound : goal.returns-then-not-sound
returns-then-not-sound c = none_aside _ _ (sym c.sound.ensures ∙ c.if-not-sound.true)

pub returns : goal.returns
returns c = put_aside _ _ _ (sym c.sound.ensures ∙ c.if-not-sound.false) c.copy_words.ensures
