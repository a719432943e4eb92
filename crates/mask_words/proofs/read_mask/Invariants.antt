-- Each word that was read leads on to the next, and the first that was not decides.
use lib.ListN.{length}
use Rattle.mask_words.proofs.Words.{Taken}
use Rattle.mask_words.proofs.read_mask.Given as goal

abbrev pub invariant-loop-word : goal.invariant-loop-word
invariant-loop-word l = Taken (length l.initial.mask) l.bytes l.at l.mask l.word-index l.p
