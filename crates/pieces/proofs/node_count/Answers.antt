-- The second word, where there is one.
use lib.ListN.{get_or-eq_default}
use mathlib.Core.Path.{sym}
use native.Mathlib.Omega.{arith}
use Rattle.pieces.proofs.node_count.Goals as goal

pub returns-then-words-lt2 : goal.returns-then-words-lt2
returns-then-words-lt2 c = sym (get_or-eq_default c.args.words.now 0 (omega (arith, c.if-words-lt2.true)))
