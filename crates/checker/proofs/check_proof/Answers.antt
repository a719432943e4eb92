-- On the stakes where they stand, or 1.
use Rattle.std.specs.Prelude.{Err}
use borrow.Author.Rules.{rules}
use mathlib.Core.Path.{◌≡◌, ap, ◌∙◌}
use Rattle.checker.proofs.Laws.{proof_bad, proof_on_lem}
use Rattle.checker.proofs.check_proof.Goals as goal

pub proof_on-requires : goal.proof_on-requires
proof_on-requires c = rw c.in_ok-on.ensures.ok.same c.in_ok-on.ensures.ok.table

pub returns-in_err-on : goal.returns-in_err-on
returns-in_err-on c =
    let u = c.in_err-on.ensures.err in
    let q : c.from_residual.result ≡ Err c.in_err-on.field-0.0 = search rules in q ∙ ap Err u.number ∙ proof_bad _ _ u.fits

pub returns : goal.returns
returns c = let w = c.in_ok-on.ensures.ok in c.proof_on.ensures ∙ proof_on_lem _ _ w.fits _ w.same
