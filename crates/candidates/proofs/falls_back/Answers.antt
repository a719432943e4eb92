-- The own vote, then whether anything would be cast, then the weights, then the block and its parent.
use mathlib.Core.Path.{◌∙◌, sym}
use Rattle.record.specs.Layout.{ledger_of}
use Rattle.candidates.proofs.TestLaws.{falls_own, falls_idle, falls_light, falls_grounded}
use Rattle.candidates.proofs.falls_back.Goals as goal

pub own_cell-c-requires : goal.own_cell-c-requires
own_cell-c-requires c = let a = c.requires.weighing in record { long = a.long; slot = a.slot }

pub returns-then-c-b : goal.returns-then-c-b
returns-then-c-b c =
    let a = c.args in
    sym (falls_own (ledger_of a.rec.now) a.s.0 a.b c.own_cell-c.result c.own_cell-c.ensures c.if-c-b.true)

pub window_open-requires : goal.window_open-requires
window_open-requires c = let a = c.requires in record { long = a.weighing.long; later = a.later; slot = a.weighing.slot }

pub returns-then-not-casts : goal.returns-then-not-casts
returns-then-not-casts c =
    let a = c.args in
    let x = c.window_open.result in
    let y = c.may_fallback.result in
    sym (falls_idle (ledger_of a.rec.now) a.s.0 a.b c.own_cell-c.result c.own_cell-c.ensures c.if-c-b.false x y c.window_open.ensures c.may_fallback.ensures (c.if-not-casts.true))

pub fallback_weights-heavy-requires : goal.fallback_weights-heavy-requires
fallback_weights-heavy-requires c = c.requires

pub returns-then-not-heavy : goal.returns-then-not-heavy
returns-then-not-heavy c =
    let a = c.args in
    let x = c.window_open.result in
    let y = c.may_fallback.result in
    sym (falls_light (ledger_of a.rec.now) a.s.0 a.b c.own_cell-c.result c.own_cell-c.ensures c.if-c-b.false x y c.window_open.ensures c.may_fallback.ensures (c.if-not-casts.false)
    (sym c.fallback_weights-heavy.ensures ∙ c.if-not-heavy.true))

pub is_grounded-requires : goal.is_grounded-requires
is_grounded-requires c = c.requires

pub returns : goal.returns
returns c =
    let a = c.args in
    let x = c.window_open.result in
    let y = c.may_fallback.result in
    c.is_grounded.ensures
    ∙ sym (falls_grounded (ledger_of a.rec.now) a.s.0 a.b c.own_cell-c.result c.own_cell-c.ensures c.if-c-b.false x y c.window_open.ensures c.may_fallback.ensures (c.if-not-casts.false)
    (sym c.fallback_weights-heavy.ensures ∙ c.if-not-heavy.false))
