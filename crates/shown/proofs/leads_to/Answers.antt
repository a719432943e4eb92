-- The four places joined.
use Prim.Native.Nat.{◌-◌}
use Rattle.shown.proofs.Laws.{leads_four}
use Rattle.shown.proofs.leads_to.Goals as goal

pub returns : goal.returns
returns c =
    let a = c.args in
    leads_four a.rec.now a.s.0 a.b a.t.0 _ _ _ _ c.leads_at-first.ensures c.leads_at-second.ensures c.leads_at-third.ensures c.leads_at-fourth.ensures
