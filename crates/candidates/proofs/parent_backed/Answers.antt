-- Genesis, a parent that does not stand below, then what is held.
use mathlib.Core.Path.{◌∙◌, sym}
use native.Mathlib.Omega.{arith}
use Rattle.record.specs.Layout.{ledger_of}
use Rattle.candidates.proofs.WaitLaws.{backed_genesis, backed_late, backed_held}
use Rattle.candidates.proofs.parent_backed.Goals as goal

pub returns-then-p-eq0 : goal.returns-then-p-eq0
returns-then-p-eq0 c =
    let a = c.args in
    sym (backed_genesis (ledger_of a.rec.now) a.s.0 a.p.0 a.x c.if-p-eq0.true)

pub returns-then-s-p : goal.returns-then-s-p
returns-then-s-p c =
    let a = c.args in
    sym (backed_late (ledger_of a.rec.now) a.s.0 a.p.0 a.x c.if-p-eq0.false (omega arith))

pub held-requires : goal.held-requires
held-requires c =
    let a = c.requires in record { weighing = record { long = a.weighing.long; slot = omega (arith, a.weighing.slot); table = a.weighing.table }; later = omega arith; cards = a.cards }

pub returns : goal.returns
returns c =
    let a = c.args in
    c.held.ensures ∙ sym (backed_held (ledger_of a.rec.now) a.s.0 a.p.0 a.x c.if-p-eq0.false (omega arith))
