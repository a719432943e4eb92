-- The words behind the block.
use native.Mathlib.Omega.{arith}
use Rattle.kept_certificates.proofs.Laws.{kept_room, a_lent}
use Rattle.kept_certificates.proofs.mask_a.Goals as goal

pub mask_from-requires : goal.mask_from-requires
mask_from-requires c =
    omega (arith, kept_room c.args.rec.now c.args.s.0 c.args.n c.kept_start.result c.requires c.kept_start.ensures)

pub returns : goal.returns
returns c =
    a_lent c.args.rec.now c.args.s.0 c.args.n c.kept_start.result c.requires c.kept_start.ensures _ c.mask_from.ensures
