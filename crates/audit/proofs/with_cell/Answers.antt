-- Each sum by its test of the cell.
use mathlib.Core.Bool.{◌&&◌}
use Rattle.rulebook.specs.Pool.{counts}
use Rattle.audit.specs.Summing.{votes_for, sums_of, with_cell}
use Rattle.audit.proofs.with_cell.Goals as goal

pub added-more_any-requires : goal.added-more_any-requires
added-more_any-requires c = c.requires.any

pub added-more_lead-requires : goal.added-more_lead-requires
added-more_lead-requires c = c.requires.lead

pub returns : goal.returns
unfolding with_cell counts votes_for
returns c =
    let a = c.args in
    λ i. sums_of (a.sums.fits && c.cell_fits-here.ensures i) (c.added-more_skip.ensures i) (c.added-more_finals.ensures i) (c.added-more_skipcert.ensures i) (c.added-more_any.ensures i) (c.added-more_lead.ensures i)
