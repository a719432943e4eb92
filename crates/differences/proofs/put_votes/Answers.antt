-- The loop over the slots: the lines of those behind it are put.
use mathlib.Core.Path.{◌≡◌, ap}
use Prim.Native.Nat.{◌+◌}
use native.Mathlib.Omega.{arith}
use Prim.Native.Nat.{suc}
use Rattle.record.specs.Layout.{ledger_of}
use Rattle.difference_lines.specs.Lines.{slot_lines, vote_lines}
use Rattle.differences.proofs.Rows.{laid_as}
use Rattle.differences.proofs.LineLaws.{first_put, next_put, next_last, slots_most}
use Rattle.differences.proofs.TableLaws.{alike_few}
use Rattle.differences.proofs.put_votes.Goals as goal

pub loop-i-init : goal.loop-i-init
loop-i-init c = (omega arith, first_put _ _ _)

pub put_slot-next-requires : goal.put_slot-next-requires
put_slot-next-requires c =
    let a = c.args in
    record { alike = c.requires; slot = omega (arith, c.loop-i-test.true); within = omega (arith, c.loop-i-test.true, c.loop-i.invariant.1.many, slots_most (ledger_of a.one.now) (ledger_of a.two.now) c.loop-i.i (alike_few c.requires)) }

pub loop-i-preserved : goal.loop-i-preserved
loop-i-preserved c =
    let a = c.args in
    let e : c.loop-i.i + 1 ≡ suc c.loop-i.i = omega arith in
    (omega (arith, c.loop-i-test.true), next_put _ c.loop-i.i c.loop-i.invariant.1 (laid_as (ap (slot_lines (ledger_of a.one.now) (ledger_of a.two.now)) e) c.put_slot-next.ensures))

pub returns : goal.returns
unfolding vote_lines
returns c =
    next_last _ c.loop-i.i c.loop-i.invariant.1 _ (omega (arith, c.loop-i-test.false, c.loop-i.invariant.0))
