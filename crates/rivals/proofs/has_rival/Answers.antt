-- None of the blocks behind the loop is a rival, and those that are left have at most the rest.
use mathlib.Core.Path.{◌≡◌, ◌∙◌, ap, sym}
use Prim.Native.Nat.{ℕ}
use native.Mathlib.Omega.{arith}
use Rattle.rulebook.specs.declared.Cell.{Cell}
use Rattle.record.specs.Layout.{ledger_of}
use Rattle.rivals.specs.Rivals.{has_rival}
use Rattle.rivals.proofs.Rivals.{left_first, left_more, rival_none, rival_stop, rival_more, rival_found}
use Rattle.rivals.proofs.has_rival.Goals as goal

pub overflow_sub-rest : goal.overflow_sub-rest
overflow_sub-rest c =
    let p = c.requires.leading in
    omega (arith, left_first (ledger_of c.args.rec.now) c.args.s.0 c.args.b c.args.v.0 p.block p.some p.weight, c.requires.all)

pub loop-n-init : goal.loop-n-init
loop-n-init c =
    let p = c.requires.leading in
    let l = ledger_of c.args.rec.now in
    (omega arith, rival_none l c.args.s.0 c.args.b c.args.v.0, omega (arith, left_first l c.args.s.0 c.args.b c.args.v.0 p.block p.some p.weight, c.requires.all))

pub returns-then-rest-v : goal.returns-then-rest-v
returns-then-rest-v c =
    let p = c.requires.leading in
    let k = c.loop-n in
    rival_stop (ledger_of c.args.rec.now) c.args.s.0 c.args.b c.args.v.0 p.block p.some p.weight k.n _ k.invariant.1 k.invariant.2 c.if-rest-v.true

pub load_cell-c-requires : goal.load_cell-c-requires
load_cell-c-requires c =
    let a = c.requires.leading.weighing in
    record { long = a.long; slot = a.slot; node = omega (arith, a.table.few, c.count-nodes.ensures) }

pub first_weight-w-requires : goal.first_weight-w-requires
first_weight-w-requires c =
    let a = c.requires.leading.weighing in
    record { weighing = a; nodes = omega (arith, a.table.few, c.count-nodes.ensures, c.loop-n-test.true) }

pub returns-then-leads : goal.returns-then-leads
returns-then-leads c =
    let p = c.requires.leading in
    rival_found (ledger_of c.args.rec.now) c.args.s.0 c.args.b c.args.v.0 p.block p.some p.weight c.loop-n.n _ _ (ap (λ (x : Cell). x.notar) c.load_cell-c.ensures) c.first_weight-w.ensures
    (omega (arith, c.count-nodes.ensures, c.loop-n-test.true)) (sym c.leads.ensures ∙ c.if-leads.true)

pub overflow_sub-rest-in-loop-n : goal.overflow_sub-rest-in-loop-n
overflow_sub-rest-in-loop-n c =
    let p = c.requires.leading in
    let k = c.loop-n in
    omega (arith, (left_more (ledger_of c.args.rec.now) c.args.s.0 c.args.b c.args.v.0 p.block p.some p.weight k.n _ _ (ap (λ (x : Cell). x.notar) c.load_cell-c.ensures) c.first_weight-w.ensures k.rest k.invariant.2).0)

pub loop-n-preserved : goal.loop-n-preserved
loop-n-preserved c =
    let p = c.requires.leading in
    let k = c.loop-n in
    let e = ap (λ (x : Cell). x.notar) c.load_cell-c.ensures in
    let l = ledger_of c.args.rec.now in (
      omega arith,
      rival_more l c.args.s.0 c.args.b c.args.v.0 p.block p.some p.weight k.n _ _ e c.first_weight-w.ensures k.invariant.1 (sym c.leads.ensures ∙ c.if-leads.false),
      (left_more l c.args.s.0 c.args.b c.args.v.0 p.block p.some p.weight k.n _ _ e c.first_weight-w.ensures k.rest k.invariant.2).1,
    )

pub returns : goal.returns
returns c =
    let l = ledger_of c.args.rec.now in
    let q : c.loop-n.n ≡ l.count = omega (arith, c.count-nodes.ensures) in
    sym (ap (λ (j : ℕ). has_rival l c.args.s.0 c.args.b c.args.v.0 j) (sym q) ∙ c.loop-n.invariant.1)
