-- A rule that casts something gives another state.
use mathlib.Core.Path.{◌≡◌, refl, ap, ◌∙◌}
use mathlib.Core.Bool.{Bool, true, false, not, ◌||◌}
use Prim.Native.Nat.{ℕ, ◌+◌, ◌≤◌, ◌<◌}
use native.Mathlib.Omega.{arith}
use lib.Dec.{T, T_not}
use Rattle.rulebook.specs.declared.VoteKind.{VoteKind}
use Rattle.rulebook.specs.declared.VoteKind.TheVariants as vote
use Rattle.rulebook.specs.Tools.{some_to}
use Rattle.rulebook.specs.Weights.{first_of}
use Rattle.rulebook.specs.Ledger.{own_cell, no_initial}
use Rattle.rulebook.specs.Rules.{State, cast, cast_skip, cast_skips, window_open, may_fallback, cast_fallback, may_skip_fallback, cast_skip_fallback}
use Rattle.rulebook.specs.Run.{made}
use Rattle.rule_laws.proofs.ToolLaws.{given_on, given_off, given_keeps}
use Rattle.safety.proofs.Tests.{T_true, not_false, or_t, by_test, or_neither}

pub grows_not : (o p : State) → made o < made p → ¬ (p ≡ o)
grows_not o p h e = let q : made p ≡ made o = ap (λ (x : State). made x) e in omega arith

cast_grows : (o : State) (s : ℕ) (k : VoteKind) (b : ℕ) → made o < made (cast o s k b)
unfolding cast
cast_grows o s k b = omega arith

-- ---- skips for a window

abbrev bare : State → ℕ → Bool
bare o s = no_initial (own_cell o.ledger s)

skip_grows : (o : State) (s : ℕ) → T (bare o s) → made o < made (cast_skip o s)
unfolding cast_skip
skip_grows o s t = rw (given_on (bare o s) o (λ _. cast o s vote.Skip 0) (T_true (bare o s) t)) (cast_grows o s vote.Skip 0)

skip_stays : (o : State) (s : ℕ) → T (not (bare o s)) → cast_skip o s ≡ o
unfolding cast_skip
skip_stays o s t = given_off (bare o s) o (λ _. cast o s vote.Skip 0) (not_false (bare o s) t)

skip_le : (o : State) (s : ℕ) → made o ≤ made (cast_skip o s)
unfolding cast_skip
skip_le o s =
    given_keeps (λ (p : State). made o ≤ made p) (bare o s) o (λ _. cast o s vote.Skip 0) (omega arith) (λ e. omega (arith, cast_grows o s vote.Skip 0))

two_grow : (o : State) (k m : ℕ) → T (bare o k || bare o m) → made o < made (cast_skip (cast_skip o k) m)
two_grow o k m t =
    by_test (bare o k)
    (λ x. omega (arith, skip_grows o k x, skip_le (cast_skip o k) m))
    (λ x. rw (skip_stays o k x) (skip_grows o m (or_t (bare o k) (bare o m) t (λ y. absurd (T_not (bare o k) x y)) (λ y. y))))

three_grow : (o : State) (j k m : ℕ) → T (bare o j || (bare o k || bare o m)) → made o < made (cast_skip (cast_skip (cast_skip o j) k) m)
three_grow o j k m t =
    by_test (bare o j)
    (λ x. omega (arith, skip_grows o j x, skip_le (cast_skip o j) k, skip_le (cast_skip (cast_skip o j) k) m))
    (λ x. rw (skip_stays o j x) (two_grow o k m (or_t (bare o j) (bare o k || bare o m) t (λ y. absurd (T_not (bare o j) x y)) (λ y. y))))

four_grow : (o : State) (i j k m : ℕ) → T (bare o i || (bare o j || (bare o k || bare o m))) → made o < made (cast_skip (cast_skip (cast_skip (cast_skip o i) j) k) m)
four_grow o i j k m t =
    by_test (bare o i)
    (λ x. omega (arith, skip_grows o i x, skip_le (cast_skip o i) j, skip_le (cast_skip (cast_skip o i) j) k, skip_le (cast_skip (cast_skip (cast_skip o i) j) k) m))
    (λ x. rw (skip_stays o i x) (three_grow o j k m (or_t (bare o i) (bare o j || (bare o k || bare o m)) t (λ y. absurd (T_not (bare o i) x y)) (λ y. y))))

four_stay : (o : State) (i j k m : ℕ) → T (not (bare o i || (bare o j || (bare o k || bare o m)))) → cast_skip (cast_skip (cast_skip (cast_skip o i) j) k) m ≡ o
four_stay o i j k m t =
    let a = or_neither (bare o i) (bare o j || (bare o k || bare o m)) t in
    let b = or_neither (bare o j) (bare o k || bare o m) a.1 in
    let c = or_neither (bare o k) (bare o m) b.1 in
    rw (skip_stays o i a.0, skip_stays o j b.0, skip_stays o k c.0, skip_stays o m c.1)

right_nested : (a b c d : Bool) → ((((false || a) || b) || c) || d) ≡ (a || (b || (c || d)))
right_nested true b c d = refl
right_nested false true c d = refl
right_nested false false true d = refl
right_nested false false false d = refl

open_is : (o : State) (s : ℕ) → window_open o.ledger s
    ≡ (bare o (first_of s) || (bare o (first_of s + 1) || (bare o (first_of s + 2) || bare o (first_of s + 3))))
unfolding window_open some_to
open_is o s =
    let z : first_of s + 0 ≡ first_of s = omega arith in
    right_nested (bare o (first_of s + 0)) (bare o (first_of s + 1)) (bare o (first_of s + 2)) (bare o (first_of s + 3))
    ∙ ap (λ (j : ℕ). bare o j || (bare o (first_of s + 1) || (bare o (first_of s + 2) || bare o (first_of s + 3)))) z

open_grows : (o : State) (s : ℕ) → T (window_open o.ledger s) → made o < made (cast_skips o s)
unfolding cast_skips
open_grows o s t = four_grow o (first_of s) (first_of s + 1) (first_of s + 2) (first_of s + 3) (rw (open_is o s) at t)

shut_stays : (o : State) (s : ℕ) → T (not (window_open o.ledger s)) → cast_skips o s ≡ o
unfolding cast_skips
shut_stays o s t = four_stay o (first_of s) (first_of s + 1) (first_of s + 2) (first_of s + 3) (rw (open_is o s) at t)

-- ---- the casts of rules D and E

pub fallback_grows : (o : State) (s b : ℕ) → T (window_open o.ledger s || may_fallback (own_cell o.ledger s) b) → made o < made (cast_fallback o s b)
unfolding cast_fallback
fallback_grows o s b t =
    by_test (window_open o.ledger s)
    (λ x. let p = cast_skips o s in
    given_keeps (λ (q : State). made o < made q) (may_fallback (own_cell p.ledger s) b) p (λ _. cast p s vote.NotarFallback b) (open_grows o s x)
    (λ e. omega (arith, open_grows o s x, cast_grows p s vote.NotarFallback b)))
    (λ x. let m : T (may_fallback (own_cell o.ledger s) b) =
    or_t (window_open o.ledger s) (may_fallback (own_cell o.ledger s) b) t (λ y. absurd (T_not (window_open o.ledger s) x y)) (λ y. y) in
    rw (shut_stays o s x, given_on (may_fallback (own_cell o.ledger s) b) o (λ _. cast o s vote.NotarFallback b) (T_true (may_fallback (own_cell o.ledger s) b) m))
    (cast_grows o s vote.NotarFallback b))

pub skip_fallback_grows : (o : State) (s : ℕ) → T (window_open o.ledger s || may_skip_fallback (own_cell o.ledger s)) → made o < made (cast_skip_fallback o s)
unfolding cast_skip_fallback
skip_fallback_grows o s t =
    by_test (window_open o.ledger s)
    (λ x. let p = cast_skips o s in
    given_keeps (λ (q : State). made o < made q) (may_skip_fallback (own_cell p.ledger s)) p (λ _. cast p s vote.SkipFallback 0) (open_grows o s x)
    (λ e. omega (arith, open_grows o s x, cast_grows p s vote.SkipFallback 0)))
    (λ x. let m : T (may_skip_fallback (own_cell o.ledger s)) =
    or_t (window_open o.ledger s) (may_skip_fallback (own_cell o.ledger s)) t (λ y. absurd (T_not (window_open o.ledger s) x y)) (λ y. y) in
    rw (shut_stays o s x, given_on (may_skip_fallback (own_cell o.ledger s)) o (λ _. cast o s vote.SkipFallback 0) (T_true (may_skip_fallback (own_cell o.ledger s)) m))
    (cast_grows o s vote.SkipFallback 0))
