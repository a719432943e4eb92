-- The fallback where the own votes let it; paid from the potential.
use mathlib.Core.Path.{◌∙◌, ap, sym}
use Rattle.rulebook.specs.Rules.{State, may_fallback}
use Rattle.rulebook.specs.declared.Cell.{Cell}
use Rattle.voter.proofs.LiveLaws.{casting_castable, live_slot, onward, onward_none}
use Rattle.voter.proofs.OutboxLaws.{moved_is}
use Rattle.voter.specs.Outbox.{state_in}
use Rattle.fallbacks.proofs.FallbackLaws.{fallback_on, fallback_off, fallback_comes}
use Rattle.fallbacks.proofs.add_notar_fallback.Goals as goal

pub own_cell-requires : goal.own_cell-requires
own_cell-requires c = live_slot c.requires.casting.live

pub cast_vote-requires : goal.cast_vote-requires
cast_vote-requires c = casting_castable c.requires.casting

pub returns-then-may_fallback : goal.returns-then-may_fallback
returns-then-may_fallback c =
    let a = c.args in let p = c.requires in let o : State = state_in a.rec.now a.outbox.now a.at in let q = c.cast_vote in
    let e = ap (λ (x : Cell). may_fallback x a.b) (sym c.own_cell.ensures) ∙ sym c.may_fallback.ensures ∙ c.if-may_fallback.true in
    onward p.casting.live.live q.auto.rec q.auto.outbox (moved_is q.ensures (fallback_on o a.s.0 a.b e)) (fallback_comes o a.s.0 p.casting.live.live.sound p.casting.votes p.casting.live.low p.casting.live.high a.b p.block p.weights)

pub returns : goal.returns
returns c =
    let a = c.args in let p = c.requires in let o : State = state_in a.rec.now a.outbox.now a.at in
    let e = ap (λ (x : Cell). may_fallback x a.b) (sym c.own_cell.ensures) ∙ sym c.may_fallback.ensures ∙ c.if-may_fallback.false in
    onward_none p.casting.live.live (fallback_off o a.s.0 a.b e)
