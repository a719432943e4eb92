-- Each way through the question.
use Rattle.std.specs.Prelude.{Ok}
use mathlib.Core.Path.{sym, ap, ◌∙◌}
use Rattle.soundness.proofs.Laws.{sound_long}
use Rattle.readers.proofs.Ways.{head_unsound, head_asked}
use Rattle.readers.proofs.read_head.Goals as goal

pub returns-then-not-sound : goal.returns-then-not-sound
returns-then-not-sound c = sym (head_unsound _ (sym c.sound.ensures ∙ c.if-not-sound.true))

pub load_head-requires : goal.load_head-requires
load_head-requires c = sound_long _ (sym c.sound.ensures ∙ c.if-not-sound.false)

pub returns : goal.returns
returns c =
    ap Ok c.load_head.ensures ∙ sym (head_asked _ (sym c.sound.ensures ∙ c.if-not-sound.false))
