-- The three sums over the nodes passed.
use mathlib.Core.Bool.{not}
use native.Mathlib.Omega.{arith}
use Rattle.rule_laws.proofs.ToolLaws.{part_le}
use Rattle.record.specs.Layout.{ledger_of}
use Rattle.shown_votes.proofs.Laws.{cast_room, voters_room, votes_few, cast_more, voters_more, weight_further, stored_start, weight_fits, stored_done}
use Rattle.shown_votes.proofs.count_stored.Goals as goal

pub count-all-requires : goal.count-all-requires
count-all-requires c = c.requires.weighing.long

pub loop-n-init : goal.loop-n-init
loop-n-init c =
    let a = c.args in
    let z = stored_start (ledger_of a.rec.now) a.s.0 in
    (omega arith, c.count-all.ensures, z.0, z.1, z.2)

pub load_cell-c-requires : goal.load_cell-c-requires
load_cell-c-requires c =
    record { long = c.requires.weighing.long; slot = c.requires.weighing.slot; node = omega (arith, c.requires.weighing.table.few, c.count-all.ensures) }

pub stake-w-requires : goal.stake-w-requires
stake-w-requires c =
    record { long = c.requires.weighing.long; node = omega (arith, c.requires.weighing.table.few, c.count-all.ensures, c.loop-n-test.true) }

pub overflow_add-votes : goal.overflow_add-votes
overflow_add-votes c =
    let k = c.loop-n in
    omega (arith, cast_room (ledger_of c.args.rec.now) c.args.s.0 k.n, votes_few c.load_cell-c.result, c.requires.few, k.invariant.1, k.invariant.2, c.votes_in-votes.ensures)

pub overflow_add-nodes : goal.overflow_add-nodes
overflow_add-nodes c =
    let k = c.loop-n in
    omega (arith, voters_room (ledger_of c.args.rec.now) c.args.s.0 k.n, part_le (not c.is_blank-voted.result) 1, c.requires.few, k.invariant.1, k.invariant.3, c.one_if-nodes.ensures)

pub overflow_add-weight : goal.overflow_add-weight
overflow_add-weight c =
    let k = c.loop-n in
    omega (arith, weight_fits (ledger_of c.args.rec.now) c.args.s.0 c.requires.weighing.table k.n (omega (arith, k.invariant.1, c.loop-n-test.true)), part_le (not c.is_blank-voted.result) c.stake-w.result.0, c.stake-w.ensures, k.invariant.4, c.weight_if-counted.ensures)

pub loop-n-preserved : goal.loop-n-preserved
loop-n-preserved c =
    let a = c.args in
    let k = c.loop-n in
    let l = ledger_of a.rec.now in
    let v = c.load_cell-c.result in
    let e = c.load_cell-c.ensures in
    let blank = c.is_blank-voted.result in
    let q = c.is_blank-voted.ensures in
    (omega arith, k.invariant.1, cast_more l a.s.0 k.n v k.votes _ e k.invariant.2 c.votes_in-votes.ensures, voters_more l a.s.0 k.n v blank k.nodes _ e q k.invariant.3 c.one_if-nodes.ensures, weight_further l a.s.0 k.n v blank k.weight _ _ e q k.invariant.4 c.stake-w.ensures c.weight_if-counted.ensures)

pub returns : goal.returns
returns c =
    let a = c.args in
    let k = c.loop-n in
    stored_done (ledger_of a.rec.now) a.s.0 k.n k.votes k.nodes k.weight (omega (arith, k.invariant.1)) k.invariant.2 k.invariant.3 k.invariant.4
