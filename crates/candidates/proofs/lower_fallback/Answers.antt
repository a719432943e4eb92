-- No block, or D's test.
use Rattle.rulebook.specs.Rules.{falls_back}
use Rattle.record.specs.Layout.{ledger_of}
use Rattle.candidates.proofs.HeavyLaws.{fallback_off, fallback_on}
use Rattle.candidates.proofs.lower_fallback.Goals as goal

pub returns-then-b-eq0 : goal.returns-then-b-eq0
returns-then-b-eq0 c =
    fallback_off (falls_back (ledger_of c.args.rec.now) c.args.s.0) c.args.b c.args.m c.if-b-eq0.true

pub returns : goal.returns
returns c =
    fallback_on (falls_back (ledger_of c.args.rec.now) c.args.s.0) c.args.b c.args.m _ _ c.if-b-eq0.false c.falls_back.ensures c.lower.ensures
