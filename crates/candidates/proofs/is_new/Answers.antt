-- No block, or one that an earlier node voted for, is not new.
use Rattle.record.specs.Layout.{ledger_of}
use Rattle.candidates.proofs.NotarLaws.{new_zero, new_some}
use Rattle.candidates.proofs.is_new.Goals as goal

pub returns-then-b-eq0 : goal.returns-then-b-eq0
returns-then-b-eq0 c = new_zero (ledger_of c.args.rec.now) c.args.s.0 _ _ c.if-b-eq0.true

pub returns : goal.returns
returns c =
    new_some (ledger_of c.args.rec.now) c.args.s.0 _ _ _ c.if-b-eq0.false c.counted_before.ensures
