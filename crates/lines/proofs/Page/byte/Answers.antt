-- A byte within the buffer is stored, one past it is not.
use mathlib.Core.Path.{refl}
use Rattle.lines.proofs.Putting.{put_one, put_past}
use Rattle.lines.proofs.Page.byte.Goals as goal

pub returns-then-self : goal.returns-then-self
returns-then-self c = record { lent = refl; put = put_one _ _ _ c.if-self.true }

pub returns-else-self : goal.returns-else-self
returns-else-self c = record { lent = refl; put = put_past _ _ _ c.if-self.false }
