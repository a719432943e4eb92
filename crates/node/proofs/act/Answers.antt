-- The input taken, the rules run.
use borrow.Author.Rules.{rules}
use Rattle.rulebook.specs.Run.{run}
use Rattle.rulebook.specs.Rules.{State}
use Rattle.run.proofs.ScanLaws.{under_way}
use Rattle.voter.proofs.LiveLaws.{onward_then}
use Rattle.soundness.proofs.Laws.{sound_tabled}
use Rattle.node.proofs.TakeLaws.{taking_in}
use Rattle.node.proofs.act.Goals as goal

pub take_in-made-requires : goal.take_in-made-requires
take_in-made-requires c = taking_in c.requires

pub settle-requires : goal.settle-requires
settle-requires c = under_way (sound_tabled c.args.rec.now c.requires.sound) c.take_in-made.ensures

pub returns : goal.returns
returns c = onward_then (λ (x : State). run x) c.take_in-made.ensures c.settle.ensures
