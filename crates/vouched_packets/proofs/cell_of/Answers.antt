-- A slot of the record, or none.
use native.Mathlib.Omega.{arith}
use Rattle.vouched_packets.proofs.Laws.{no_votes_lem}
use Rattle.vouched_packets.proofs.cell_of.Goals as goal

pub returns : goal.returns
returns c = no_votes_lem c.args.rec.now c.args.s.0 (omega (arith, c.if-s-le-LAST_SLOT.false))
