-- A free place, another block, then the parent.
use mathlib.Core.Path.{◌∙◌, sym}
use Rattle.record.specs.Layout.{ledger_of}
use Rattle.standing.proofs.Laws.{lets_free, lets_other, lets_kept}
use Rattle.standing.proofs.lets_notar.Goals as goal

pub returns-then-k-eq0 : goal.returns-then-k-eq0
returns-then-k-eq0 c =
    let a = c.args in
    sym (lets_free (ledger_of a.rec.now) a.s.0 a.b a.k c.if-k-eq0.true)

pub returns-then-k-b : goal.returns-then-k-b
returns-then-k-b c =
    let a = c.args in
    sym (lets_other (ledger_of a.rec.now) a.s.0 a.b a.k c.if-k-eq0.false c.if-k-b.true)

pub returns : goal.returns
returns c =
    let a = c.args in
    c.parent_fits.ensures ∙ sym (lets_kept (ledger_of a.rec.now) a.s.0 a.b a.k c.if-k-eq0.false c.if-k-b.false)
