-- The loop has joined the tests of the places behind it.
use mathlib.Core.Path.{◌∙◌, ap, sym}
use Prim.Native.Nat.{◌-◌}
use native.Mathlib.Omega.{arith}
use Rattle.rule_laws.proofs.ToolLaws.{all_none}
use Rattle.rulebook.specs.WellFormed.{in_order}
use Rattle.rulebook.specs.declared.Block.{Block}
use Rattle.record.specs.BlockPlaces.{behind}
use Rattle.soundness.proofs.Laws.{all_step, all_done}
use Rattle.soundness.proofs.is_behind.Goals as goal

pub loop-j-init : goal.loop-j-init
loop-j-init c = (omega arith, sym (all_none _))

pub load_block-k-requires : goal.load_block-k-requires
load_block-k-requires c =
    record { long = c.requires.long; slot = c.requires.slot; place = omega (arith, c.requires.place) }

pub loop-j-preserved : goal.loop-j-preserved
loop-j-preserved c =
    let a = c.args in
    let k = c.loop-j in
    (omega arith, all_step k.j _ _ _ k.invariant.1 (c.in_order-here.ensures ∙ ap (λ (x : Block). in_order x.number a.number) c.load_block-k.ensures))

pub returns : goal.returns
returns c = all_done c.loop-j.j _ _ _ c.loop-j.invariant.1 (omega arith)
