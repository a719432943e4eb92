-- Kind 2, then kind 1, then kind 5.
use mathlib.Core.Path.{◌∙◌, sym}
use Rattle.record.specs.Layout.{ledger_of}
use Rattle.candidates.proofs.TestLaws.{final_fast, final_light, final_slow}
use Rattle.candidates.proofs.is_final.Goals as goal

pub returns-then-not-held : goal.returns-then-not-held
returns-then-not-held c =
    let a = c.args in
    sym (final_light (ledger_of a.rec.now) a.s.0 a.b (sym c.held.ensures ∙ c.if-not-held.true))

pub returns-then-held : goal.returns-then-held
returns-then-held c =
    let a = c.args in
    sym (final_fast (ledger_of a.rec.now) a.s.0 a.b (sym c.held-2.ensures ∙ c.if-held.true))

pub returns : goal.returns
returns c =
    let a = c.args in
    c.held-3.ensures
    ∙ sym (final_slow (ledger_of a.rec.now) a.s.0 a.b (sym c.held-2.ensures ∙ c.if-held.false) (sym c.held.ensures ∙ c.if-not-held.false))
