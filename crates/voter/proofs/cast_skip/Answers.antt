-- The skip where there is no own initial vote; paid from the potential.
use mathlib.Core.Path.{◌∙◌, ap, sym}
use Rattle.rulebook.specs.Rules.{State}
use Rattle.rulebook.specs.Ledger.{no_initial}
use Rattle.rulebook.specs.declared.Cell.{Cell}
use Rattle.voter.proofs.CastLaws.{skip_on, skip_off, skip_comes}
use Rattle.voter.proofs.LiveLaws.{casting_castable, live_slot, onward, onward_none}
use Rattle.voter.proofs.OutboxLaws.{moved_is}
use Rattle.voter.specs.Outbox.{state_in}
use Rattle.voter.proofs.cast_skip.Goals as goal

pub own_cell-requires : goal.own_cell-requires
own_cell-requires c = live_slot c.requires.live

pub cast_vote-requires : goal.cast_vote-requires
cast_vote-requires c = casting_castable c.requires

pub returns-then-no_initial : goal.returns-then-no_initial
returns-then-no_initial c =
    let a = c.args in let p = c.requires in let o : State = state_in a.rec.now a.outbox.now a.at in let q = c.cast_vote in
    let e = ap (λ (x : Cell). no_initial x) (sym c.own_cell.ensures) ∙ sym c.no_initial.ensures ∙ c.if-no_initial.true in
    onward p.live.live q.auto.rec q.auto.outbox (moved_is q.ensures (skip_on o a.s.0 e)) (skip_comes o a.s.0 p.live.live.sound p.votes p.live.low p.live.high)

pub returns : goal.returns
returns c =
    let a = c.args in let p = c.requires in let o : State = state_in a.rec.now a.outbox.now a.at in
    let e = ap (λ (x : Cell). no_initial x) (sym c.own_cell.ensures) ∙ sym c.no_initial.ensures ∙ c.if-no_initial.false in
    onward_none p.live.live (skip_off o a.s.0 e)
