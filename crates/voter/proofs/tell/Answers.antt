-- Three words behind the records: each read back, all others as found.
use native.Mathlib.Omega.{arith}
use lib.ListN.{length-set}
use Rattle.voter.proofs.OutboxLaws.{put_told}
use Rattle.voter.proofs.tell.Goals as goal

pub bounds-outbox-i-2 : goal.bounds-outbox-i-2
bounds-outbox-i-2 c = simp length-set (omega arith)

pub returns : goal.returns
returns c = put_told c.args.outbox.now c.args.at c.args.kind c.args.s.0 c.args.block c.requires
