-- The loop has joined the tests of the windows behind it.
use mathlib.Core.Path.{ap, sym}
use Prim.Native.Nat.{◌-◌}
use native.Mathlib.Omega.{arith}
use Rattle.rule_laws.proofs.ToolLaws.{all_none}
use Rattle.rulebook.specs.WellFormed.{flag}
use Rattle.soundness.proofs.Laws.{all_step, all_done}
use Rattle.soundness.proofs.armed_fits.Goals as goal

pub loop-w-init : goal.loop-w-init
loop-w-init c = (omega arith, sym (all_none _))

pub loop-w-preserved : goal.loop-w-preserved
loop-w-preserved c = (omega arith, all_step c.loop-w.w _ _ _ c.loop-w.invariant.1 (ap flag c.armed_word.ensures))

pub returns : goal.returns
returns c = all_done c.loop-w.w 4 _ _ c.loop-w.invariant.1 (omega arith)
