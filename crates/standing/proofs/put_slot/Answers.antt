-- The six votes one after the other, each by its test.
use Rattle.std.proofs.Common.{rules, ap}
use Rattle.record.specs.Layout.{ledger_of}
use Rattle.inquest.specs.Stands.{none_or, notar_stands, fallback_stands, late_stands, final_stands}
use Rattle.inquest.specs.Lists.{unless}
use Rattle.inquest_lines.proofs.Laws.{laid_as}
use Rattle.standing.proofs.Laws.{slot_put}
use Rattle.standing.proofs.put_slot.Goals as goal

pub returns : goal.returns
returns c =
    let l = ledger_of c.args.rec.now in
    let s = c.args.s.0 in
    let k = c.own_cell-c.result in
    slot_put l s k c.own_cell-c.ensures
    (laid_as (ap (unless (none_or k.notar (λ _. notar_stands l s k.notar))) c.own_line-x.ensures) (c.put_own-a.ensures.line (λ _. notar_stands l s k.notar) (λ r e. search rules)))
    (laid_as (ap (unless (none_or k.fallback1 (λ _. fallback_stands l s k.fallback1))) c.own_line-x-2.ensures) (c.put_own-b.ensures.line (λ _. fallback_stands l s k.fallback1) (λ r e. search rules)))
    (laid_as (ap (unless (none_or k.fallback2 (λ _. fallback_stands l s k.fallback2))) c.own_line-x-3.ensures) (c.put_own-d.ensures.line (λ _. fallback_stands l s k.fallback2) (λ r e. search rules)))
    (laid_as (ap (unless (none_or k.fallback3 (λ _. fallback_stands l s k.fallback3))) c.own_line-x-4.ensures) (c.put_own-e.ensures.line (λ _. fallback_stands l s k.fallback3) (λ r e. search rules)))
    (laid_as (ap (unless (none_or k.skipfallback (λ _. late_stands l s))) c.own_line-x-5.ensures) (c.put_own-f.ensures.line (λ _. late_stands l s) (λ r e. search rules)))
    (laid_as (ap (unless (none_or k.finalvote (λ _. final_stands l s))) c.own_line-x-6.ensures) (c.put_own.ensures.line (λ _. final_stands l s) (λ r e. search rules)))
