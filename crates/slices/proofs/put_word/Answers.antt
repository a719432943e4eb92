-- Past the words nothing changes.
use mathlib.Core.Path.{sym}
use native.Mathlib.Omega.{arith}
use lib.Seq.{set_out}
use Rattle.slices.proofs.put_word.Goals as goal

pub returns-else-i-words : goal.returns-else-i-words
returns-else-i-words c = sym (set_out _ _ _ (omega (arith, c.if-i-words.false)))
