-- The blocks and the marks of a row, then its kept certificates, then its votes.
use mathlib.Core.Path.{◌∙◌, sym}
use native.Mathlib.Omega.{arith}
use Rattle.record.specs.Layout.{ledger_of}
use Rattle.soundness.proofs.Laws.{row_off, row_unjudged, row_on}
use Rattle.soundness.proofs.row_fits.Goals as goal

pub blocks_fit-kept-requires : goal.blocks_fit-kept-requires
blocks_fit-kept-requires c = let a = c.requires in record { long = a.long; slot = a.slot }

pub returns-then-not-kept-marked : goal.returns-then-not-kept-marked
returns-then-not-kept-marked c =
    let a = c.args in
    row_off (ledger_of a.rec.now) a.s.0 _ _ _ c.blocks_fit-kept.ensures c.timeout_word.ensures c.clash_word.ensures (c.if-not-kept-marked.true)

pub returns-then-not-certificates_fit : goal.returns-then-not-certificates_fit
returns-then-not-certificates_fit c =
    let a = c.args in
    row_unjudged (ledger_of a.rec.now) a.s.0 _ _ _ c.blocks_fit-kept.ensures c.timeout_word.ensures c.clash_word.ensures (c.if-not-kept-marked.false)
    (sym c.certificates_fit.ensures ∙ c.if-not-certificates_fit.true)

pub votes_fit-requires : goal.votes_fit-requires
votes_fit-requires c =
    let p = c.requires in
    record { weighing = record { long = p.long; slot = omega (arith, p.slot); table = p.table }; full = p.full }

pub returns : goal.returns
returns c =
    let a = c.args in
    c.votes_fit.ensures
    ∙ row_on (ledger_of a.rec.now) a.s.0 _ _ _ c.blocks_fit-kept.ensures c.timeout_word.ensures c.clash_word.ensures (c.if-not-kept-marked.false)
    (sym c.certificates_fit.ensures ∙ c.if-not-certificates_fit.false)
