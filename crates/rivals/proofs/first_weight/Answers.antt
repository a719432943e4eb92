-- The claimed leader itself, a block that an earlier node votes for, or a block met for the first time.
use Rattle.record.specs.Layout.{ledger_of}
use Rattle.rivals.proofs.Rivals.{first_self, first_old, first_new}
use Rattle.rivals.proofs.first_weight.Goals as goal

pub returns-then-m-b : goal.returns-then-m-b
returns-then-m-b c =
    let a = c.args in
    first_self (ledger_of a.rec.now) a.s.0 a.n.0 a.m a.b c.if-m-b.true

pub returns-then-not-is_new : goal.returns-then-not-is_new
returns-then-not-is_new c =
    let a = c.args in
    first_old (ledger_of a.rec.now) a.s.0 a.n.0 a.m a.b _ c.is_new.ensures (c.if-not-is_new.true)

pub returns : goal.returns
returns c =
    let a = c.args in
    first_new (ledger_of a.rec.now) a.s.0 a.n.0 a.m a.b _ c.is_new.ensures c.if-m-b.false (c.if-not-is_new.false) _ c.weigh.ensures
