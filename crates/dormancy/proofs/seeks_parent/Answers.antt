-- Rule A's look by the ways through its tests.
use Prim.Native.Nat.{ℕ}
use native.Mathlib.Omega.{arith}
use Rattle.record.specs.Layout.{ledger_of}
use Rattle.dormancy.proofs.DormantLaws.{seeks_off, seeks_genesis, seeks_idle}
use Rattle.dormancy.proofs.seeks_parent.Goals as goal

pub returns-then-not-may_arm : goal.returns-then-not-may_arm
returns-then-not-may_arm c =
    let l = ledger_of c.args.rec.now in let s : ℕ = c.args.s.0 in let looks = c.args.looks.now in
    seeks_off l looks s c.may_arm.result c.may_arm.ensures (c.if-not-may_arm.true)

pub returns-then-s-eq1 : goal.returns-then-s-eq1
returns-then-s-eq1 c =
    let l = ledger_of c.args.rec.now in let s : ℕ = c.args.s.0 in let looks = c.args.looks.now in
    seeks_genesis l looks s c.may_arm.result c.may_arm.ensures (c.if-not-may_arm.false) c.if-s-eq1.true

pub overflow_sub-before : goal.overflow_sub-before
overflow_sub-before c = omega (arith, c.requires.later)

pub is_idle-requires : goal.is_idle-requires
is_idle-requires c =
    let p = c.requires in record { weighing = record { long = p.weighing.long; slot = omega (arith, p.weighing.slot); table = p.weighing.table }; later = omega (arith, p.later); cards = p.cards }

pub returns : goal.returns
returns c =
    let l = ledger_of c.args.rec.now in let s : ℕ = c.args.s.0 in let looks = c.args.looks.now in
    seeks_idle l looks s c.may_arm.result c.may_arm.ensures (c.if-not-may_arm.false) c.if-s-eq1.false c.is_idle.result c.is_idle.ensures
