-- By what is told of the first certificate.
use Rattle.std.specs.Prelude.{Err}
use borrow.Author.Rules.{rules}
use mathlib.Core.Path.{◌≡◌, sym, ◌∙◌}
use Rattle.checker.specs.InPacket.{proven}
use Rattle.checker.proofs.Laws.{proof_answer}
use Rattle.checker.proofs.proof_on.Goals as goal

pub returns-in_err-first : goal.returns-in_err-first
unfolding proven
returns-in_err-first c =
    let q : c.from_residual.result ≡ Err c.in_err-first.field-0.0 = search rules in q ∙ sym (proof_answer _ _ _ c.in_err-first.ensures)

pub returns : goal.returns
unfolding proven
returns c = c.after_first.ensures ∙ sym (proof_answer _ _ _ c.in_ok-first.ensures)
