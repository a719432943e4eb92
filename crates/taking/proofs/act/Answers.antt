-- The certificate kept, the rules run.
use borrow.Author.Rules.{rules}
use Rattle.rulebook.specs.Rules.{State}
use Rattle.rulebook.specs.Run.{run}
use Rattle.run.proofs.ScanLaws.{under_way}
use Rattle.voter.proofs.LiveLaws.{onward_then}
use Rattle.soundness.proofs.Laws.{sound_tabled}
use Rattle.taking.proofs.TakeLaws.{certificate_stored}
use Rattle.taking.proofs.act.Goals as goal

pub keep_packet-requires : goal.keep_packet-requires
keep_packet-requires c = c.requires.accepting

pub settle-requires : goal.settle-requires
settle-requires c =
    under_way (sound_tabled c.args.rec.now c.requires.accepting.sound) (certificate_stored c.requires _ c.keep_packet.auto.rec c.keep_packet.ensures)

pub returns : goal.returns
returns c =
    onward_then (λ (x : State). run x) (certificate_stored c.requires _ c.keep_packet.auto.rec c.keep_packet.ensures) c.settle.ensures
