-- The words one after the other are one run of bytes.
use Rattle.rule_laws.proofs.WordLaws.{Words}
use Rattle.mask_words.proofs.Words.{Put}
use Rattle.mask_words.proofs.write_mask.Given as goal

abbrev pub invariant-loop-word : goal.invariant-loop-word
invariant-loop-word l = Words l.mask × Put l.initial.bytes l.at l.mask l.bytes l.word-index l.p
