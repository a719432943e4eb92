-- Seven places of at most one each.
use Prim.Native.Nat.{◌+◌}
use native.Mathlib.Omega.{arith}
use Rattle.shown_votes.specs.Votes.{votes_in}
use Rattle.shown.proofs.Laws.{flag_most}
use Rattle.shown_votes.proofs.votes_in.Goals as goal

pub overflow_add-initial : goal.overflow_add-initial
overflow_add-initial c =
    let v = c.args.c in omega (arith, flag_most v.notar, flag_most v.skip, c.one_if.ensures, c.one_if-2.ensures)

pub overflow_add-fallbacks : goal.overflow_add-fallbacks
overflow_add-fallbacks c =
    let v = c.args.c in omega (arith, flag_most v.fallback1, flag_most v.fallback2, flag_most v.fallback3, c.one_if-third.ensures, c.one_if-3.ensures, c.one_if-4.ensures)

pub overflow_add-fallbacks-2 : goal.overflow_add-fallbacks-2
overflow_add-fallbacks-2 c =
    let v = c.args.c in omega (arith, flag_most v.fallback1, flag_most v.fallback2, flag_most v.fallback3, c.one_if-third.ensures, c.one_if-3.ensures, c.one_if-4.ensures)

pub overflow_add-last : goal.overflow_add-last
overflow_add-last c =
    let v = c.args.c in omega (arith, flag_most v.skipfallback, flag_most v.finalvote, c.one_if-5.ensures, c.one_if-6.ensures)

pub overflow_add-result : goal.overflow_add-result
overflow_add-result c =
    let v = c.args.c in omega (arith, flag_most v.fallback1, flag_most v.fallback2, flag_most v.fallback3, flag_most v.skipfallback, flag_most v.finalvote, c.one_if-third.ensures, c.one_if-3.ensures, c.one_if-4.ensures, c.one_if-5.ensures, c.one_if-6.ensures)

pub overflow_add-result-2 : goal.overflow_add-result-2
overflow_add-result-2 c =
    let v = c.args.c in omega (arith, flag_most v.notar, flag_most v.skip, flag_most v.fallback1, flag_most v.fallback2, flag_most v.fallback3, flag_most v.skipfallback, flag_most v.finalvote, c.one_if.ensures, c.one_if-2.ensures, c.one_if-third.ensures, c.one_if-3.ensures, c.one_if-4.ensures, c.one_if-5.ensures, c.one_if-6.ensures)

pub returns : goal.returns
unfolding votes_in
returns c =
    (λ i. (c.one_if.ensures i + c.one_if-2.ensures i) + ((c.one_if-3.ensures i + (c.one_if-4.ensures i + c.one_if-third.ensures i)) + (c.one_if-5.ensures i + c.one_if-6.ensures i)))
