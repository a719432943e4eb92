-- Mask A, then mask B.
use native.Mathlib.Omega.{arith}
use Rattle.inquest_lines.proofs.Laws.{spelled, laid_then, laid_as}
use Rattle.signer_lines.proofs.Laws.{one_most, counted_a, counted_b}
use Rattle.signer_lines.proofs.put_signer.Goals as goal

pub put_counted-requires : goal.put_counted-requires
put_counted-requires c = omega (arith, one_most _ _ c.put_counted-next.ensures, c.requires)

pub returns : goal.returns
returns c =
    let a = c.args in
    laid_then spelled (laid_as (counted_a a.x a.d c.vote_a.ensures) c.put_counted-next.ensures)
    (laid_as (counted_b a.x a.d c.with_b.ensures c.vote_b.ensures) c.put_counted.ensures)
