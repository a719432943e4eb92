-- The tests of the head joined as they are written.
use Rattle.rulebook.specs.WellFormed.{head_fits}
use Rattle.soundness.proofs.head_fits.Goals as goal

pub returns : goal.returns
unfolding head_fits
returns c =
    simp (c.rest_fits-rest.ensures, c.armed_fits-windows.ensures, c.genesis.ensures, c.count-2.ensures, c.own-me.ensures, c.stakes_fit-table.ensures, c.places_for.ensures, c.count.ensures, c.places_in.ensures)
