-- The skip-fallback where the own votes let it; paid from the potential.
use mathlib.Core.Path.{◌∙◌, ap, sym}
use Rattle.rulebook.specs.Rules.{State, may_skip_fallback}
use Rattle.voter.proofs.LiveLaws.{casting_castable, live_slot, onward, onward_none}
use Rattle.voter.proofs.OutboxLaws.{moved_is}
use Rattle.voter.specs.Outbox.{state_in}
use Rattle.fallbacks.proofs.FallbackLaws.{skip_fallback_on, skip_fallback_off, skip_fallback_comes}
use Rattle.fallbacks.proofs.add_skip_fallback.Goals as goal

pub own_cell-requires : goal.own_cell-requires
own_cell-requires c = live_slot c.requires.live

pub cast_vote-requires : goal.cast_vote-requires
cast_vote-requires c = casting_castable c.requires

pub returns-then-may_skip_fallback : goal.returns-then-may_skip_fallback
returns-then-may_skip_fallback c =
    let a = c.args in let p = c.requires in let o : State = state_in a.rec.now a.outbox.now a.at in let q = c.cast_vote in
    let e = ap may_skip_fallback (sym c.own_cell.ensures) ∙ sym c.may_skip_fallback.ensures ∙ c.if-may_skip_fallback.true in
    onward p.live.live q.auto.rec q.auto.outbox (moved_is q.ensures (skip_fallback_on o a.s.0 e)) (skip_fallback_comes o a.s.0 p.live.live.sound p.votes p.live.low p.live.high)

pub returns : goal.returns
returns c =
    let a = c.args in let p = c.requires in let o : State = state_in a.rec.now a.outbox.now a.at in
    let e = ap may_skip_fallback (sym c.own_cell.ensures) ∙ sym c.may_skip_fallback.ensures ∙ c.if-may_skip_fallback.false in
    onward_none p.live.live (skip_fallback_off o a.s.0 e)
