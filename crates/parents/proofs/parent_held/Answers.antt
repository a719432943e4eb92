-- Slot 0 is genesis's; elsewhere kind 2's signers are among kind 3's.
use mathlib.Core.Path.{◌∙◌, ap, sym}
use native.Mathlib.Omega.{arith}
use lib.Dec.{eqb}
use Rattle.record.specs.Layout.{ledger_of}
use Rattle.parents.proofs.ParentLaws.{parent_genesis, parent_later}
use Rattle.parents.proofs.parent_held.Goals as goal

pub returns-then-p-eq0 : goal.returns-then-p-eq0
returns-then-p-eq0 c =
    let a = c.args in
    ap (eqb a.b) c.genesis-first.ensures ∙ sym (parent_genesis (ledger_of a.rec.now) a.p.0 a.b c.if-p-eq0.true)

pub returns : goal.returns
returns c =
    let a = c.args in
    c.held.ensures ∙ sym (parent_later (ledger_of a.rec.now) a.p.0 a.b (omega arith))
