-- The look, then kept names, then skips.
use Rattle.record.specs.Layout.{ledger_of}
use Rattle.dormancy.proofs.DormantLaws.{idle_long, idle_named, idle_skipped}
use Rattle.dormancy.proofs.is_idle.Goals as goal

pub returns-then-not-is_short : goal.returns-then-not-is_short
returns-then-not-is_short c =
    let a = c.args in
    idle_long (ledger_of a.rec.now) a.looks.now a.s.0 _ c.is_short.ensures (c.if-not-is_short.true)

pub returns-then-names_kept : goal.returns-then-names_kept
returns-then-names_kept c =
    let a = c.args in
    idle_named (ledger_of a.rec.now) a.looks.now a.s.0 _ c.is_short.ensures _ c.names_kept.ensures (c.if-not-is_short.false) c.if-names_kept.true

pub returns : goal.returns
returns c =
    let a = c.args in
    idle_skipped (ledger_of a.rec.now) a.looks.now a.s.0 _ c.is_short.ensures _ c.names_kept.ensures (c.if-not-is_short.false) _ c.if-names_kept.false c.held.ensures
