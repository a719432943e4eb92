-- No group has enough, or the votes in their order show it, or the blocks are weighed.
use mathlib.Core.Path.{sym}
use Rattle.record.specs.Layout.{ledger_of}
use Rattle.rivals.proofs.Shown.{shown_unled, shown_led}
use Rattle.rivals.proofs.is_led_over.Goals as goal

pub returns-then-not-group_leads : goal.returns-then-not-group_leads
returns-then-not-group_leads c = sym (c.group_leads.ensures (c.if-not-group_leads.true))

pub returns-in-Unled : goal.returns-in-Unled
returns-in-Unled c =
    let a = c.args in
    shown_unled (ledger_of a.rec.now) a.s.0 a.b a.v.0 _ c.shown_in_order.ensures c.in-Unled.is

pub returns-in-Led : goal.returns-in-Led
returns-in-Led c =
    let a = c.args in
    shown_led (ledger_of a.rec.now) a.s.0 a.b a.v.0 _ c.shown_in_order.ensures c.in-Led.is
