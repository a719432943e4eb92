-- The counters have the names of the nodes passed.
use native.Mathlib.Omega.{arith}
use Rattle.rulebook.specs.declared.Who.TheVariants as who
use Rattle.record.specs.Layout.{ledger_of}
use Rattle.heavy_blocks.proofs.Laws.{hitting_none, hitting_more, hitting_room, hitting_end}
use Rattle.heavy_blocks.proofs.heavy_names.Goals as goal

pub loop-n-init : goal.loop-n-init
loop-n-init c = hitting_none (ledger_of c.args.rec.now) c.args.s.0 (λ m. who.NotarOrFallback m) 4

pub add_cell-requires : goal.add_cell-requires
add_cell-requires c =
    let r = hitting_room (ledger_of c.args.rec.now) c.args.s.0 (λ m. who.NotarOrFallback m) 4 c.loop-n.invariant c.stake-w.result.0 c.stake-w.ensures c.requires.table (omega (arith, c.count-nodes.ensures, c.loop-n-test.true)) (omega arith) in
    omega arith

pub loop-n-preserved : goal.loop-n-preserved
loop-n-preserved c =
    hitting_more (ledger_of c.args.rec.now) c.args.s.0 (λ m. who.NotarOrFallback m) 4 c.loop-n.invariant c.stake-w.result.0 c.stake-w.ensures _ c.load_cell-c.ensures c.add_cell.ensures

pub returns : goal.returns
returns c =
    hitting_end (ledger_of c.args.rec.now) c.args.s.0 (λ m. who.NotarOrFallback m) 4 3 (λ x y h g. omega arith) c.requires.table (omega (arith, c.count-nodes.ensures)) c.loop-n.invariant c.names_of.ensures
