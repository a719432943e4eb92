-- No block behind the loop leads, and none weighs more than its group.
use mathlib.Core.Path.{refl, sym, ◌∙◌, subst}
use mathlib.Core.Bool.{true}
use mathlib.Core.List.{List}
use Prim.Native.Nat.{ℕ, ◌+◌}
use native.Mathlib.Omega.{arith}
use lib.ListN.{length}
use Rattle.rulebook.specs.declared.Who.TheVariants as who
use Rattle.rule_laws.proofs.ToolLaws.{true_not_false}
use Rattle.record.specs.Layout.{ledger_of}
use Rattle.pool.proofs.HeldLaws.{weigh_light, weigh_room}
use Rattle.rivals.proofs.Groups.{group_in, Grouped, grouped_none, grouped_same, grouped_more, grouped_end}
use Rattle.rivals.proofs.group_leads.Goals as goal
use Rattle.rivals.proofs.group_leads.Goals.{then-m-b+else-is_ahead, else-m-b}

pub count-nodes-requires : goal.count-nodes-requires
count-nodes-requires c = c.requires.leading.weighing.long

pub loop-n-init : goal.loop-n-init
loop-n-init c =
    (omega arith, grouped_none (ledger_of c.args.rec.now) c.args.s.0 c.args.b c.args.v.0 _ c.requires.leading.some c.requires.groups _ refl c.requires.empty)

pub notar_of-m-requires : goal.notar_of-m-requires
notar_of-m-requires c =
    let a = c.requires.leading.weighing in
    record { long = a.long; slot = a.slot; node = omega (arith, a.table.few, c.count-nodes.ensures, c.loop-n-test.true) }

pub stake-w-requires : goal.stake-w-requires
stake-w-requires c = omega (arith, c.requires.leading.weighing.table.few, c.count-nodes.ensures)

pub overflow_sub-g : goal.overflow_sub-g
overflow_sub-g c = omega (arith, c.loop-n.invariant.1.some)

pub offset_bounds-groups-g : goal.offset_bounds-groups-g
offset_bounds-groups-g c = let g = c.loop-n.invariant.1 in omega (arith, g.long, group_in c.notar_of-m.result _ g.some)

pub bounds-groups-g : goal.bounds-groups-g
bounds-groups-g c = let g = c.loop-n.invariant.1 in omega (arith, g.long, group_in c.notar_of-m.result _ g.some)

pub is_ahead-requires : goal.is_ahead-requires
is_ahead-requires c =
    let k = c.loop-n in
    let m = c.notar_of-m.result in
    let p = c.requires.leading.weighing in
    omega (
      arith,
      k.invariant.1.light _ (group_in m _ k.invariant.1.some),
      c.requires.leading.weight,
      weigh_light p.table c.args.s.0 (who.Notar c.args.b),
      p.table.light,
      weigh_room p.table c.args.s.0 (who.Notar c.args.b) k.n (omega (arith, c.count-nodes.ensures, c.loop-n-test.true)),
      c.stake-w.ensures,
    )

pub overflow_add-sum : goal.overflow_add-sum
overflow_add-sum c = omega (arith, is_ahead-requires c)

pub returns-then-is_ahead : goal.returns-then-is_ahead
returns-then-is_ahead c = λ e. true_not_false true refl e

pub offset_bounds-groups-g-then-m-b : goal.offset_bounds-groups-g-then-m-b
offset_bounds-groups-g-then-m-b c = let g = c.loop-n.invariant.1 in omega (arith, g.long, group_in c.notar_of-m.result _ g.some)

pub bounds-groups-g-then-m-b : goal.bounds-groups-g-then-m-b
bounds-groups-g-then-m-b c = let g = c.loop-n.invariant.1 in omega (arith, g.long, group_in c.notar_of-m.result _ g.some)

pub loop-n-preserved : goal.loop-n-preserved
loop-n-preserved c =
    let a = c.args in
    let l = ledger_of a.rec.now in
    let size : ℕ = length a.groups.now in
    let k = c.loop-n in
    let x = c.notar_of-m in
    let After : List ℕ → Type 0 = λ gs. Grouped l a.s.0 a.b a.v.0 size gs (k.n + 1) in (
      omega arith,
      elim c.if-m-b.branch [
        | then-m-b+else-is_ahead w ↦ subst After (sym w.groups-is)
            (grouped_more l a.s.0 a.b a.v.0 size k.n x.result x.ensures k.groups _ (omega (arith, w.stake-w.ensures)) (sym w.is_ahead.ensures ∙ w.if-is_ahead.false) k.invariant.1)
        | else-m-b w ↦ subst After (sym w.groups-is) (grouped_same l a.s.0 a.b a.v.0 size k.n x.result x.ensures k.groups w.if-m-b.false k.invariant.1)
      ],
    )

pub returns : goal.returns
returns c =
    let p = c.requires.leading in
    let k = c.loop-n in
    λ e. grouped_end (ledger_of c.args.rec.now) c.args.s.0 c.args.b c.args.v.0 _ p.block p.some p.weight k.groups k.n (omega (arith, c.count-nodes.ensures)) k.invariant.1
