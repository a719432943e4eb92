-- Inside a window, slot 1, or what the slot before tells.
use native.Mathlib.Omega.{arith}
use Rattle.record.specs.Layout.{ledger_of}
use Rattle.dormancy.proofs.Stranded.{stranded_inside, stranded_genesis, stranded_idle}
use Rattle.dormancy.proofs.is_stranded.Goals as goal

pub returns-then-not-is_first : goal.returns-then-not-is_first
returns-then-not-is_first c =
    let a = c.args in
    stranded_inside (ledger_of a.rec.now) a.looks.now a.s.0 _ c.is_first.ensures (c.if-not-is_first.true)

pub returns-then-s-eq1 : goal.returns-then-s-eq1
returns-then-s-eq1 c =
    let a = c.args in
    stranded_genesis (ledger_of a.rec.now) a.looks.now a.s.0 _ c.is_first.ensures (c.if-not-is_first.false) c.if-s-eq1.true

pub overflow_sub-before : goal.overflow_sub-before
overflow_sub-before c = omega (arith, c.requires.later)

pub is_idle-requires : goal.is_idle-requires
is_idle-requires c =
    let p = c.requires in
    record {
      weighing = record { long = p.weighing.long; slot = omega (arith, p.weighing.slot); table = p.weighing.table };
      later = omega (arith, p.later);
      cards = p.cards;
    }

pub returns : goal.returns
returns c =
    let a = c.args in
    stranded_idle (ledger_of a.rec.now) a.looks.now a.s.0 _ c.is_first.ensures (c.if-not-is_first.false) c.if-s-eq1.false _ c.is_idle.ensures
