-- The loop over the words: those before the present one are put.
use mathlib.Core.Path.{◌∙◌}
use native.Mathlib.Omega.{arith}
use Rattle.lines.proofs.Paging.{as_text}
use Rattle.comparing.proofs.Laws.{bytes_at, no_part, next_part, last_word, word_is}
use Rattle.comparing.proofs.put_words.Goals as goal

pub loop-w-init : goal.loop-w-init
loop-w-init c = no_part _ (bytes_at c.args.words.now)

pub loop-w-preserved : goal.loop-w-preserved
loop-w-preserved c = next_part (bytes_at c.args.words.now) _ c.loop-w.invariant (as_text (c.to_le_bytes.ensures ∙ word_is _) c.text.ensures)

pub returns : goal.returns
returns c = last_word c.args.words.now c.loop-w.w-index (omega arith) c.loop-w.invariant
