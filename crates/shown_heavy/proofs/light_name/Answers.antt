-- No block or one that was looked at, a block of an earlier node, and a new one.
use Rattle.record.specs.Layout.{ledger_of}
use Rattle.shown_heavy.proofs.Laws.{light_skipped, light_seen, light_new}
use Rattle.shown_heavy.proofs.light_name.Goals as goal

pub returns-then-b-looked : goal.returns-then-b-looked
returns-then-b-looked c = let a = c.args in light_skipped (ledger_of a.rec.now) a.s.0 a.n.0 a.looked a.b c.if-b-looked.true

pub counted_before-requires : goal.counted_before-requires
counted_before-requires c =
    record { long = c.requires.weighing.long; slot = c.requires.weighing.slot; nodes = c.requires.node }

pub returns-then-counted_before : goal.returns-then-counted_before
returns-then-counted_before c =
    let a = c.args in light_seen (ledger_of a.rec.now) a.s.0 a.n.0 a.looked a.b c.if-b-looked.false _ c.counted_before.ensures c.if-counted_before.true

pub is_heavy-heavy-requires : goal.is_heavy-heavy-requires
is_heavy-heavy-requires c = c.requires.weighing

pub returns : goal.returns
returns c =
    let a = c.args in light_new (ledger_of a.rec.now) a.s.0 a.n.0 a.looked a.b c.if-b-looked.false _ c.counted_before.ensures c.if-counted_before.false _ c.is_heavy-heavy.ensures _ c.one_if.ensures
