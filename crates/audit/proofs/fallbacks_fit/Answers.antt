-- The tests joined as they are written.
use Rattle.audit.specs.Summing.{fallbacks_fit}
use Rattle.audit.proofs.fallbacks_fit.Goals as goal

pub returns : goal.returns
unfolding fallbacks_fit
returns c = simp (c.in_order-second.ensures, c.in_order-third.ensures)
