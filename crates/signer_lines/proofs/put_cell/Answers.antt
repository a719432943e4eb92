-- The seven votes one after the other.
use native.Mathlib.Omega.{arith}
use Rattle.inquest.specs.Lists.{cell_lacks}
use Rattle.inquest_lines.proofs.Laws.{spelled, laid_then}
use Rattle.signer_lines.proofs.Laws.{one_most}
use Rattle.signer_lines.proofs.put_cell.Goals as goal

pub put_stored-f-requires : goal.put_stored-f-requires
put_stored-f-requires c =
    omega (arith, one_most _ _ c.put_stored-e.ensures, c.requires)

pub put_stored-g-requires : goal.put_stored-g-requires
put_stored-g-requires c =
    omega (arith, one_most _ _ c.put_stored-f.ensures, one_most _ _ c.put_stored-e.ensures, c.requires)

pub put_stored-h-requires : goal.put_stored-h-requires
put_stored-h-requires c =
    omega (arith, one_most _ _ c.put_stored-g.ensures, one_most _ _ c.put_stored-f.ensures, one_most _ _ c.put_stored-e.ensures, c.requires)

pub put_stored-i-requires : goal.put_stored-i-requires
put_stored-i-requires c =
    omega (arith, one_most _ _ c.put_stored-h.ensures, one_most _ _ c.put_stored-g.ensures, one_most _ _ c.put_stored-f.ensures, one_most _ _ c.put_stored-e.ensures, c.requires)

pub put_stored-j-requires : goal.put_stored-j-requires
put_stored-j-requires c =
    omega (arith, one_most _ _ c.put_stored-i.ensures, one_most _ _ c.put_stored-h.ensures, one_most _ _ c.put_stored-g.ensures, one_most _ _ c.put_stored-f.ensures, one_most _ _ c.put_stored-e.ensures, c.requires)

pub put_stored-requires : goal.put_stored-requires
put_stored-requires c =
    omega (arith, one_most _ _ c.put_stored-j.ensures, one_most _ _ c.put_stored-i.ensures, one_most _ _ c.put_stored-h.ensures, one_most _ _ c.put_stored-g.ensures, one_most _ _ c.put_stored-f.ensures, one_most _ _ c.put_stored-e.ensures, c.requires)

pub returns : goal.returns
unfolding cell_lacks
returns c =
    laid_then spelled c.put_stored-e.ensures
    (laid_then spelled c.put_stored-f.ensures
    (laid_then spelled c.put_stored-g.ensures
    (laid_then spelled c.put_stored-h.ensures
    (laid_then spelled c.put_stored-i.ensures (laid_then spelled c.put_stored-j.ensures c.put_stored.ensures)))))
