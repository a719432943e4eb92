-- The longer words, letter by letter.
use mathlib.Core.Path.{refl}
use native.Mathlib.Omega.{arith}
use Rattle.std.proofs.lemmas.Slice.Eq.{text_from_reads}
use Rattle.rulebook.specs.Tools.{choose}
use Rattle.commands.specs.Commands.{reading_of, blocks_text, certificates_text, parents_text, weights_text}
use Rattle.commands.proofs.reading_named.Goals as goal

pub returns-in-blocks : goal.returns-in-blocks
unfolding reading_of choose
returns-in-blocks c = rw (text_from_reads c.args.word.now blocks_text (omega arith) (omega arith, (omega arith, (omega arith, (omega arith, (omega arith, (omega arith, tt))))))) refl

pub returns-in-weights : goal.returns-in-weights
unfolding reading_of choose
returns-in-weights c = rw (text_from_reads c.args.word.now weights_text (omega arith) (omega arith, (omega arith, (omega arith, (omega arith, (omega arith, (omega arith, (omega arith, tt)))))))) refl

pub returns-in-parents : goal.returns-in-parents
unfolding reading_of choose
returns-in-parents c = rw (text_from_reads c.args.word.now parents_text (omega arith) (omega arith, (omega arith, (omega arith, (omega arith, (omega arith, (omega arith, (omega arith, tt)))))))) refl

pub returns-in-certificates : goal.returns-in-certificates
unfolding reading_of choose
returns-in-certificates c = rw (text_from_reads c.args.word.now certificates_text (omega arith) (omega arith, (omega arith, (omega arith, (omega arith, (omega arith, (omega arith, (omega arith, (omega arith, (omega arith, (omega arith, (omega arith, (omega arith, tt))))))))))))) refl
