-- The loop over the words: those before the present one are put.
use Rattle.lines.specs.Page.{Wrote}
use Rattle.comparing.specs.Compared.{parts_to}
use Rattle.comparing.proofs.Laws.{bytes_at}
use Rattle.comparing.proofs.put_words.Given as goal

abbrev pub invariant-loop-w : goal.invariant-loop-w
invariant-loop-w l = Wrote l.initial.page (parts_to (bytes_at l.words) l.w-index) l.page
