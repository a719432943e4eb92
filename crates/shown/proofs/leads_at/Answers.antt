-- The four tests joined as they are written.
use mathlib.Core.Bool.{not, ◌&&◌}
use Prim.Native.Nat.{◌-◌}
use lib.Dec.{eqb}
use Rattle.rulebook.specs.Ledger.{none, is_block}
use Rattle.shown.proofs.leads_at.Goals as goal

pub returns : goal.returns
unfolding is_block
returns c =
    let a = c.args in
    let k = c.kept_of-k.ensures in
    (λ i. not (none (k i).number)
    && (eqb (k i).number (c.final_of-f.ensures i) && (eqb (k i).parentslot.0 a.s.0 && eqb (k i).parent a.b)))
