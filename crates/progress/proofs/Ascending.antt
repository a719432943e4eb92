-- Slots ascending, of any nodes: where no rule A is left to apply, own initial votes stand in armed windows and a slot is decided once all up to it have
-- these votes, every slot is decided and its window armed, and so is the next window.
use mathlib.Core.Path.{refl, sym, subst}
use mathlib.Core.Bool.{Bool, not}
use mathlib.Core.List.{List}
use Prim.Native.Nat.{ℕ, zero, suc, ◌≤◌, ◌<◌}
use native.Mathlib.Omega.{arith}
use native.Mathlib.Decide.{ℕ_discrete}
use lib.Dec.{T, T_not}
use Rattle.rulebook.specs.Weights.{last_slot, is_first}
use Rattle.safety.specs.Slot.{Ballot, Test}
use Rattle.safety.proofs.Tests.{by_test}
use Rattle.progress.specs.Rest.{HeldFour, Backs, Initial, Decided, backed, passed, Going}

first_one : T (is_first 1)
unfolding is_first
first_one = tt

pub not_first_some : (s : ℕ) → T (not (is_first (suc s))) → 1 ≤ s
not_first_some zero nf = absurd (T_not (is_first 1) nf first_one)
not_first_some (suc s) nf = omega arith

module _ (ws : List ℕ) (k : ℕ) (nodes : Test) (genesis : ℕ → ℕ) (cast : ℕ → ℕ → Ballot → Bool) (kept : ℕ → ℕ → ℕ → ℕ → ℕ → Bool)
    (pool : ℕ → ℕ → ℕ → Ballot → Bool) (armed : ℕ → ℕ → Bool)
    (arms : (n : ℕ) → T (nodes n) → (s p x : ℕ) → 1 ≤ s → s ≤ last_slot → T (is_first s) → p < s → Backs ws k nodes genesis cast kept pool armed n p x
    → ((t : ℕ) → p < t → t < s → HeldFour ws k nodes genesis cast kept pool armed n t) → T (armed n s))
    (window : (n : ℕ) → T (nodes n) → (s : ℕ) → 1 ≤ s → suc s ≤ last_slot → T (not (is_first (suc s))) → T (armed n s) → T (armed n (suc s))) where
  abbrev Four : ℕ → ℕ → Type 0
  Four n s = HeldFour ws k nodes genesis cast kept pool armed n s

  abbrev Settled : ℕ → Type 0
  Settled s = Decided ws k nodes genesis cast kept pool armed s

  abbrev Goes : ℕ → Type 0
  Goes s = Going ws k nodes genesis cast kept pool armed s

  -- A first slot above decided slots: looking down from it, a parent is ready.
  arms_down : (s n : ℕ) → T (nodes n) → 1 ≤ s → s ≤ last_slot → T (is_first s) → ((t : ℕ) → 1 ≤ t → t < s → Settled t)
      → (j : ℕ) → j < s → ((t : ℕ) → j < t → t < s → Four n t) → T (armed n s)
  arms_down s n h lo hi f dec zero l skipsTo = arms n h s 0 (genesis n) lo hi f l refl skipsTo
  arms_down s n h lo hi f dec (suc j) l skipsTo = go (dec (suc j) (omega arith) l) (arms_down s n h lo hi f dec j (omega arith))
    where
      go : Settled (suc j) → (((t : ℕ) → j < t → t < s → Four n t) → T (armed n s)) → T (armed n s)
      go (backed b all held) below = arms n h s (suc j) b lo hi f l (held n h) skipsTo
      go (passed all held) below =
          below (λ t x y. elim (ℕ_discrete t (suc j)) [
            | yes e ↦ subst (λ (i : ℕ). Four n i) (sym e) (held n h)
            | no ne ↦ skipsTo t (omega arith) y
          ])

  -- The next slot's window is armed where all slots up to it are going.
  pub armed_next : (s : ℕ) → suc s ≤ last_slot → ((t : ℕ) → 1 ≤ t → t ≤ s → Goes t) → (n : ℕ) → T (nodes n) → T (armed n (suc s))
  armed_next s hi prior n h =
      by_test (is_first (suc s))
      (λ f. arms_down (suc s) n h (omega arith) hi f (λ t x y. (prior t x (omega arith)).decided) s (omega arith) (λ t x y. absurd (omega arith)))
      (λ nf. let one = not_first_some s nf in window n h s one hi nf ((prior s one (omega arith)).arming n h))

  module _ (u : ℕ) (last : u ≤ last_slot)
      (initial : (n s : ℕ) → T (nodes n) → 1 ≤ s → s ≤ u → T (armed n s) → Initial ws k nodes genesis cast kept pool armed n s)
      (decide : (s : ℕ) → 1 ≤ s → s ≤ u → ((t : ℕ) → 1 ≤ t → t ≤ s → (n : ℕ) → T (nodes n) → Initial ws k nodes genesis cast kept pool armed n t) → Settled s) where
    pub up_to : (s : ℕ) → s ≤ u → (t : ℕ) → 1 ≤ t → t ≤ s → Goes t
    up_to zero hi t lo l = absurd (omega arith)
    up_to (suc s) hi t lo l =
        let prior = up_to s (omega arith) in
        elim (ℕ_discrete t (suc s)) [
          | yes e ↦ subst (λ (j : ℕ). Goes j) (sym e) (here prior)
          | no ne ↦ prior t lo (omega arith)
        ]
      where
        here : ((t : ℕ) → 1 ≤ t → t ≤ s → Goes t) → Goes (suc s)
        here prior =
            let arm : (n : ℕ) → T (nodes n) → T (armed n (suc s)) = armed_next s (omega (arith, last)) prior in
            let all : (t : ℕ) → 1 ≤ t → t ≤ suc s → (n : ℕ) → T (nodes n) → T (armed n t) =
            λ t x y n h. elim (ℕ_discrete t (suc s)) [
              | yes e ↦ subst (λ (j : ℕ). T (armed n j)) (sym e) (arm n h)
              | no ne ↦ (prior t x (omega arith)).arming n h
            ] in
            record { arming = arm; decided = decide (suc s) (omega arith) hi (λ t x y n h. initial n t h x (omega arith) (all t x y n h)) }

    -- All of them, and the window behind them.
    pub all_going : (s : ℕ) → 1 ≤ s → s ≤ u → Goes s
    all_going s lo hi = up_to u (omega arith) s lo hi

    pub armed_behind : suc u ≤ last_slot → (n : ℕ) → T (nodes n) → T (armed n (suc u))
    armed_behind room n h = armed_next u room all_going n h
