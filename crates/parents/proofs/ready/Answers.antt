-- The cheap test first, then the parent, then the slots between.
use mathlib.Core.Path.{◌∙◌, sym}
use native.Mathlib.Omega.{arith}
use Rattle.record.specs.Layout.{ledger_of}
use Rattle.parents.proofs.ReadyLaws.{ready_late, ready_unheld, ready_between}
use Rattle.parents.proofs.ready.Goals as goal

pub returns-then-s-p : goal.returns-then-s-p
returns-then-s-p c =
    let a = c.args in
    sym (ready_late (ledger_of a.rec.now) a.s.0 a.p.0 a.b (omega arith))

pub parent_held-requires : goal.parent_held-requires
parent_held-requires c =
    let a = c.requires in record { weighing = record { long = a.weighing.long; slot = omega (arith, a.weighing.slot); table = a.weighing.table }; cards = a.cards }

pub returns-then-not-parent_held : goal.returns-then-not-parent_held
returns-then-not-parent_held c =
    let a = c.args in
    sym (ready_unheld (ledger_of a.rec.now) a.s.0 a.p.0 a.b (omega arith) (sym c.parent_held.ensures ∙ c.if-not-parent_held.true))

pub skipped_between-requires : goal.skipped_between-requires
skipped_between-requires c = record { carded = c.requires; below = omega arith }

pub returns : goal.returns
returns c =
    let a = c.args in
    c.skipped_between.ensures ∙ sym (ready_between (ledger_of a.rec.now) a.s.0 a.p.0 a.b (omega arith) (sym c.parent_held.ensures ∙ c.if-not-parent_held.false))
