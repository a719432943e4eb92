-- The loop has summed the cells of the nodes behind it.
use mathlib.Core.Path.{◌∙◌, ap}
use Prim.Native.Nat.{◌-◌, ◌<◌}
use native.Mathlib.Omega.{arith}
use Rattle.rulebook.specs.Weights.{stake_in}
use Rattle.rulebook.specs.Ledger.{cell_at}
use Rattle.record.specs.Layout.{ledger_of}
use Rattle.audit.specs.declared.Sums.{Sums}
use Rattle.audit.specs.Summing.{with_cell, sums_to}
use Rattle.audit.proofs.Summing.{sums_none, sums_more, sums_room}
use Rattle.audit.proofs.sums_of.Goals as goal

pub loop-n-init : goal.loop-n-init
loop-n-init c =
    let a = c.args in
    (omega arith, c.no_sums-sums.ensures ∙ sums_none (ledger_of a.rec.now) a.s.0 a.b)

pub with_node-sums-requires : goal.with_node-sums-requires
with_node-sums-requires c =
    let l = ledger_of c.args.rec.now in
    let h : c.loop-n.n < l.count = omega (arith, c.count-voters.ensures, c.loop-n-test.true) in
    record { weighing = c.requires; node = h; room = rw c.loop-n.invariant.1 (sums_room l c.args.s.0 c.args.b c.requires.table c.loop-n.n h) }

pub loop-n-preserved : goal.loop-n-preserved
loop-n-preserved c =
    let a = c.args in
    let l = ledger_of a.rec.now in
    let n = c.loop-n.n in
    (omega arith, c.with_node-sums.ensures ∙ ap (λ (x : Sums). with_cell x (cell_at l a.s.0 n) (stake_in l.stakes n) a.b) c.loop-n.invariant.1 ∙ sums_more l a.s.0 a.b n)

pub returns : goal.returns
returns c =
    let a = c.args in
    c.loop-n.invariant.1 ∙ ap (sums_to (ledger_of a.rec.now) a.s.0 a.b) (omega (arith, c.count-voters.ensures))
