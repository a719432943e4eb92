-- The slot sought from t on is the one that is sought.
use mathlib.Core.Path.{◌∙◌, sym}
use Prim.Native.Nat.{◌-◌}
use native.Mathlib.Omega.{arith}
use Rattle.shown.specs.Shown.{ledger_in}
use Rattle.shown.proofs.Laws.{child_start, child_here, child_more, child_none}
use Rattle.shown.proofs.final_child.Goals as goal

pub loop-t-init : goal.loop-t-init
loop-t-init c = let a = c.args in (omega arith, child_start (ledger_in a.rec.now) a.s.0 a.b)

pub returns-then-leads_to : goal.returns-then-leads_to
returns-then-leads_to c =
    let a = c.args in
    let k = c.loop-t in
    child_here (ledger_in a.rec.now) a.s.0 a.b k.t (omega arith) (sym c.leads_to.ensures ∙ c.if-leads_to.true) k.invariant.1

pub loop-t-preserved : goal.loop-t-preserved
loop-t-preserved c =
    let a = c.args in
    let k = c.loop-t in
    (omega arith, child_more (ledger_in a.rec.now) a.s.0 a.b k.t (omega arith) (sym c.leads_to.ensures ∙ c.if-leads_to.false) k.invariant.1)

pub returns : goal.returns
returns c =
    let a = c.args in
    let k = c.loop-t in
    child_none (ledger_in a.rec.now) a.s.0 a.b k.t (omega arith) k.invariant.1
