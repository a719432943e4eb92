-- Four skips from the window's first slot on, one after the other.
use Prim.Native.Nat.{◌/◌, ℕ, ◌+◌, ◌-◌, ◌*◌}
use native.Mathlib.Omega.{arith}
use Rattle.rulebook.specs.Rules.{State, cast_skip}
use Rattle.voter.proofs.CastLaws.{skips_from, first_is}
use Rattle.voter.proofs.LiveLaws.{votes_on_lem, casting_at, onward_is, onward_then}
use Rattle.voter.specs.Outbox.{state_in}
use Rattle.voter.proofs.cast_skips.Goals as goal

pub cast_skip-two-requires : goal.cast_skip-two-requires
cast_skip-two-requires c =
    casting_at c.cast_skip-one.ensures.live (votes_on_lem c.cast_skip-one.ensures.same c.requires.votes) (omega arith) (omega (arith, c.requires.live.high))

pub cast_skip-three-requires : goal.cast_skip-three-requires
cast_skip-three-requires c =
    casting_at c.cast_skip-two.ensures.live (votes_on_lem c.cast_skip-two.ensures.same (votes_on_lem c.cast_skip-one.ensures.same c.requires.votes)) (omega arith) (omega (arith, c.requires.live.high))

pub cast_skip-requires : goal.cast_skip-requires
cast_skip-requires c =
    casting_at c.cast_skip-three.ensures.live (votes_on_lem c.cast_skip-three.ensures.same (votes_on_lem c.cast_skip-two.ensures.same (votes_on_lem c.cast_skip-one.ensures.same c.requires.votes))) (omega arith) (omega (arith, c.requires.live.high))

pub returns : goal.returns
returns c =
    let a = c.args in let o : State = state_in a.rec.now a.outbox.now a.at in let f : ℕ = (a.s.0 - 1) / 4 * 4 + 1 in
    let two = onward_then (λ (x : State). cast_skip x (f + 1)) c.cast_skip-one.ensures c.cast_skip-two.ensures in
    let three = onward_then (λ (x : State). cast_skip x (f + 2)) two c.cast_skip-three.ensures in
    onward_is (onward_then (λ (x : State). cast_skip x (f + 3)) three c.cast_skip.ensures) (skips_from o a.s.0 f (first_is a.s.0))
