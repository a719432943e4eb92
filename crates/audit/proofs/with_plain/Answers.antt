-- Finals and lead by their tests of the cell, any without one; two stay.
use native.Mathlib.Omega.{arith}
use Rattle.rulebook.specs.Pool.{counts}
use Rattle.audit.proofs.Summing.{plain_adds}
use Rattle.audit.proofs.with_plain.Goals as goal

pub added-more_finals-requires : goal.added-more_finals-requires
added-more_finals-requires c = c.requires.0.finals

pub overflow_add-more_any : goal.overflow_add-more_any
overflow_add-more_any c = omega (arith, c.requires.0.any)

pub added-more_lead-requires : goal.added-more_lead-requires
added-more_lead-requires c = c.requires.0.lead

pub returns : goal.returns
unfolding counts
returns c =
    plain_adds c.args.c c.requires.1 c.args.sums c.args.w.0 c.args.b _ _ _ c.in_order-second.ensures c.added-more_finals.ensures c.added-more_lead.ensures
