-- The counters have the notar votes of the nodes passed.
use mathlib.Core.Path.{refl}
use native.Mathlib.Omega.{arith}
use Rattle.rulebook.specs.declared.Who.TheVariants as who
use Rattle.rulebook.specs.Ledger.{cell_at}
use Rattle.record.specs.Layout.{ledger_of}
use Rattle.heavy_blocks.proofs.Laws.{counted_notar, hitting_none, hitting_more, hitting_room, hitting_end}
use Rattle.heavy_blocks.proofs.heavy_notar.Goals as goal

pub loop-n-init : goal.loop-n-init
loop-n-init c = hitting_none (ledger_of c.args.rec.now) c.args.s.0 (λ m. who.Notar m) 1

pub add-requires : goal.add-requires
add-requires c =
    let r = hitting_room (ledger_of c.args.rec.now) c.args.s.0 (λ m. who.Notar m) 1 c.loop-n.invariant c.stake-w.result.0 c.stake-w.ensures c.requires.table (omega (arith, c.count-nodes.ensures, c.loop-n-test.true)) (omega arith) in
    omega arith

pub loop-n-preserved : goal.loop-n-preserved
loop-n-preserved c =
    hitting_more (ledger_of c.args.rec.now) c.args.s.0 (λ m. who.Notar m) 1 c.loop-n.invariant c.stake-w.result.0 c.stake-w.ensures _ refl (counted_notar (cell_at (ledger_of c.args.rec.now) c.args.s.0 c.loop-n.n) c.notar_of-m.result _ c.notar_of-m.ensures c.add.ensures)

pub returns : goal.returns
returns c =
    hitting_end (ledger_of c.args.rec.now) c.args.s.0 (λ m. who.Notar m) 1 1 (λ x y h g. omega arith) c.requires.table (omega (arith, c.count-nodes.ensures)) c.loop-n.invariant c.names_of.ensures
