-- The look by the ways through its tests.
use Rattle.record.specs.Layout.{ledger_of}
use Rattle.dormancy.proofs.DormantLaws.{look_seeks, look_busy, look_led}
use Rattle.dormancy.proofs.is_dormant.Goals as goal

pub returns-then-seeks_parent : goal.returns-then-seeks_parent
returns-then-seeks_parent c =
    let a = c.args in
    look_seeks (ledger_of a.rec.now) a.looks.now a.s.0 _ c.seeks_parent.ensures c.if-seeks_parent.true

pub returns-then-named-is_bare : goal.returns-then-named-is_bare
returns-then-named-is_bare c =
    let a = c.args in
    look_busy (ledger_of a.rec.now) a.looks.now a.s.0 _ c.seeks_parent.ensures c.if-seeks_parent.false _ _ c.names_kept-named.ensures c.is_bare.ensures c.if-named-is_bare.true

pub returns : goal.returns
returns c =
    let a = c.args in
    look_led (ledger_of a.rec.now) a.looks.now a.s.0 _ c.seeks_parent.ensures c.if-seeks_parent.false _ _ c.names_kept-named.ensures c.is_bare.ensures _ c.if-named-is_bare.false c.leads_anew.ensures
