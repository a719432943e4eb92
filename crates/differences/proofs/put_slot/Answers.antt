-- The loop over the nodes: the lines of those behind it are put.
use native.Mathlib.Omega.{arith}
use Rattle.record.specs.Layout.{ledger_of}
use Rattle.soundness.proofs.Laws.{sound_long}
use Rattle.difference_lines.specs.Lines.{cell_lines, slot_lines}
use Rattle.differences.proofs.Rows.{laid_as}
use Rattle.differences.proofs.LineLaws.{first_put, next_put, next_last, row_most}
use Rattle.differences.proofs.TableLaws.{alike_few, alike_here, alike_there}
use Rattle.differences.proofs.put_slot.Goals as goal

pub count-nodes-requires : goal.count-nodes-requires
count-nodes-requires c = sound_long _ c.requires.alike.sounds.first

pub loop-n-init : goal.loop-n-init
loop-n-init c = (omega arith, first_put _ _ _)

pub load_cell-c-requires : goal.load_cell-c-requires
load_cell-c-requires c =
    record { long = sound_long _ c.requires.alike.sounds.first; slot = c.requires.slot; node = omega (arith, c.loop-n-test.true, c.count-nodes.ensures, alike_here c.requires.alike) }

pub load_cell-d-requires : goal.load_cell-d-requires
load_cell-d-requires c =
    record { long = sound_long _ c.requires.alike.sounds.second; slot = c.requires.slot; node = omega (arith, c.loop-n-test.true, c.count-nodes.ensures, alike_there c.requires.alike) }

pub put_node-next-requires : goal.put_node-next-requires
put_node-next-requires c =
    let a = c.args in
    omega (arith, c.loop-n-test.true, c.count-nodes.ensures, alike_few c.requires.alike, c.requires.within, c.loop-n.invariant.1.many, row_most (ledger_of a.one.now) (ledger_of a.two.now) a.slot.0 c.loop-n.n)

pub loop-n-preserved : goal.loop-n-preserved
loop-n-preserved c =
    (omega (arith, c.loop-n-test.true), next_put _ c.loop-n.n c.loop-n.invariant.1 (laid_as (λ i. cell_lines c.args.slot.0 c.loop-n.n (c.load_cell-c.ensures i) (c.load_cell-d.ensures i)) c.put_node-next.ensures))

pub returns : goal.returns
unfolding slot_lines
returns c =
    next_last _ c.loop-n.n c.loop-n.invariant.1 _ (omega (arith, c.loop-n-test.false, c.loop-n.invariant.0, c.count-nodes.ensures))
