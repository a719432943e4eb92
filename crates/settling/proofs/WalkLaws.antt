-- The walk as a recursion over slots: a walk from slot s takes one step and walks on from a lower slot. What recursive code cites.
use mathlib.Core.Path.{◌≡◌, refl, sym, ◌∙◌}
use mathlib.Core.Bool.{Bool, true, false, not, ◌&&◌}
use Prim.Native.Nat.{ℕ, zero, suc, ◌-◌, ◌<◌, ◌≤◌}
use native.Mathlib.Omega.{arith}
use lib.Dec.{eqb, ltb}
use borrow.Author.Tests.{not-true, eqb-false, ltb-true}
use lib.Arith.{lt_of_le-ne}
use Rattle.rulebook.specs.declared.Block.{Block}
use Rattle.rulebook.specs.Tools.{whenever}
use Rattle.rulebook.specs.Ledger.{none, row_at, blocks_at}
use Rattle.rulebook.specs.Rules.{State, tell_final, find_block, walk_to, walk_step, walk_for, rule_g}
use Rattle.rule_laws.proofs.ToolLaws.{and_both}

given_same : {A : Type 0} (b : Bool) (x : A) (f g : Unit {0} → A) → (b ≡ true → f tt ≡ g tt) → whenever b f x ≡ whenever b g x
unfolding whenever
given_same true x f g e = e refl
given_same false x f g e = refl

-- Two ways to walk on that agree in every lower slot.
step_same : (next other : State → ℕ → State) (o : State) (s : ℕ) → ((q : State) (p : ℕ) → 1 ≤ p → p < s → next q p ≡ other q p)
    → walk_step next o s ≡ walk_step other o s
unfolding walk_step walk_to
step_same next other o s e =
    let k : Block = find_block (row_at o.ledger s).final (blocks_at o.ledger s) in
    let p : ℕ = k.parentslot.0 in
    let q : State = tell_final o p k.parent in
    given_same (not (none p) && ltb p s) o _ _
    (λ t.
    let c = and_both (not (none p)) (ltb p s) t in
    let low : 1 ≤ p = lt_of_le-ne (omega arith) (λ z. eqb-false p 0 (not-true (none p) c.0) (sym z)) in
    given_same (eqb (row_at q.ledger p).final k.parent) q _ _ (λ _. e q p low (ltb-true p s c.1)))

-- More steps than there are lower slots change nothing.
walk_enough : (n m : ℕ) (o : State) (s : ℕ) → 1 ≤ s → s ≤ n → s ≤ m → walk_for n o s ≡ walk_for m o s
unfolding walk_for
walk_enough zero m o s a x y = absurd (omega arith)
walk_enough (suc n) zero o s a x y = absurd (omega arith)
walk_enough (suc n) (suc m) o s a x y =
    step_same (walk_for n) (walk_for m) o s (λ q p low lt. walk_enough n m q p low (omega arith) (omega arith))

walk_unfold : (n : ℕ) (o : State) (s : ℕ) → walk_for (suc n) o s ≡ walk_step (walk_for n) o s
unfolding walk_for
walk_unfold n o s = refl

-- THE RECURSION: rule G from slot s is one step, and rule G from the parent's slot.
pub walk_on : (o : State) (s : ℕ) → 1 ≤ s → rule_g o s ≡ walk_step rule_g o s
unfolding rule_g
walk_on o s a =
    walk_enough s (suc (s - 1)) o s a (omega arith) (omega arith)
    ∙ walk_unfold (s - 1) o s
    ∙ step_same (walk_for (s - 1)) (λ q p. walk_for p q p) o s (λ q p low lt. walk_enough (s - 1) p q p low (omega arith) (omega arith))
