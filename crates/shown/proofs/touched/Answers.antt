-- The five readings joined.
use mathlib.Core.Bool.{not, ◌||◌}
use Prim.Native.Nat.{◌-◌}
use Rattle.rulebook.specs.Ledger.{none}
use Rattle.shown.specs.Shown.{touched}
use Rattle.shown.proofs.touched.Goals as goal

pub returns : goal.returns
unfolding touched
returns c =
    let marks = c.timed_out_in in
    (λ i. not (none (c.kept_of-b.ensures i).number)
    || ((marks.ensures i || not (none (c.final_of.ensures i)))
    || (c.has_votes-voted.ensures i || c.has_certificates-certified.ensures i)))
