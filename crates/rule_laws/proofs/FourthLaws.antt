-- Why there is no fourth fallback: with four blocks of rule D's weights skip has at most a fifth, so each has two fifths by itself, and that is
-- eight fifths. No limit on faulty stake.
use mathlib.Core.Path.{◌≡◌, sym, ◌∙◌, subst}
use mathlib.Core.Bool.{Bool, true, false, not, ◌&&◌, ◌||◌}
use mathlib.Core.List.{List}
use Prim.Native.Nat.{ℕ, ◌+◌, ◌*◌, ◌≤◌, ◌<◌}
use native.Mathlib.Omega.{arith}
use lib.Dec.{eqb}
use borrow.Author.Tests.{not-true, eqb-true, eqb-false}
use Rattle.rulebook.specs.declared.Cell.{Cell}
use Rattle.rulebook.specs.Weights.{weight, total_to, reaches, d_weights}
use Rattle.rulebook.specs.Ledger.{Ledger, none, cell_at}
use Rattle.rulebook.specs.Pool.{counts, weigh}
use Rattle.rulebook.specs.Rules.{fallback_weights}
use Rattle.rule_laws.proofs.ToolLaws.{and_both, both_and, or_cases, or_left, or_right, by_test, true_not_false}
use Rattle.rule_laws.proofs.WeightLaws.{reaches_fact, reaches_more, weight_none, weight_both, weight_apart_lem}

-- ---- rule D's weights, over three numbers

-- With more weight they stay reached.
pub weights_more : (t x y u v : ℕ) → x ≤ u → y ≤ v → d_weights t x y ≡ true → d_weights t u v ≡ true
weights_more t x y u v a b h =
    or_cases (reaches 2 t x) (reaches 1 t x && reaches 3 t (y + x)) h
    (λ e. or_left (reaches 2 t u) (reaches 1 t u && reaches 3 t (v + u)) (reaches_more 2 t x u a e))
    (λ e.
    let p = and_both (reaches 1 t x) (reaches 3 t (y + x)) e in
    or_right (reaches 2 t u) (reaches 1 t u && reaches 3 t (v + u))
    (both_and (reaches 1 t u) (reaches 3 t (v + u)) (reaches_more 1 t x u a p.0) (reaches_more 3 t (y + x) (v + u) (omega arith) p.1)))

-- A fifth in any case.
one : (t x y : ℕ) → d_weights t x y ≡ true → t ≤ 5 * x
one t x y h =
    or_cases (reaches 2 t x) (reaches 1 t x && reaches 3 t (y + x)) h
    (λ u. omega (arith, reaches_fact 2 t x u))
    (λ u. omega (arith, reaches_fact 1 t x (and_both (reaches 1 t x) (reaches 3 t (y + x)) u).0))

-- Two fifths where skip has at most one.
two : (t x y : ℕ) → 5 * y ≤ t → d_weights t x y ≡ true → 2 * t ≤ 5 * x
two t x y le h =
    or_cases (reaches 2 t x) (reaches 1 t x && reaches 3 t (y + x)) h
    (λ u. reaches_fact 2 t x u)
    (λ u. omega (arith, reaches_fact 3 t (y + x) (and_both (reaches 1 t x) (reaches 3 t (y + x)) u).1))

-- ---- over tests of which no node passes two

-- No node of the first k passes both.
abbrev pub Apart : ℕ → (ℕ → Bool) → (ℕ → Bool) → Type 0
Apart k p q = (n : ℕ) → n < k → p n ≡ true → q n ≡ true → ⊥

either : (k : ℕ) (p q r : ℕ → Bool) → Apart k p r → Apart k q r → Apart k (λ n. p n || q n) r
either k p q r f g n l t u = or_cases (p n) (q n) t (λ x. f n l x u) (λ x. g n l x u)

flip : (k : ℕ) (p q : ℕ → Bool) → Apart k p q → Apart k q p
flip k p q f n l t u = f n l u t

join : (ws : List ℕ) (k : ℕ) (p q : ℕ → Bool) → Apart k p q → weight ws k p + weight ws k q ≡ weight ws k (λ n. p n || q n)
join ws k p q f =
    omega (
      arith,
      weight_both ws k p q,
      weight_none ws k (λ n. p n && q n) (λ n l. by_test (p n && q n) (λ t. let h = and_both (p n) (q n) t in absurd (f n l h.0 h.1)) (λ t. t)),
    )

-- Four blocks a to d, and skip.
pub no_fourth : (ws : List ℕ) (k : ℕ) → 1 ≤ total_to ws k → (a b c d s : ℕ → Bool) → Apart k a b → Apart k a c → Apart k a d → Apart k a s → Apart k b c
    → Apart k b d → Apart k b s → Apart k c d → Apart k c s → Apart k d s → d_weights (total_to ws k) (weight ws k a) (weight ws k s) ≡ true
    → d_weights (total_to ws k) (weight ws k b) (weight ws k s) ≡ true → d_weights (total_to ws k) (weight ws k c) (weight ws k s) ≡ true
    → d_weights (total_to ws k) (weight ws k d) (weight ws k s) ≡ true → ⊥
no_fourth ws k pos a b c d s ab ac ad az bc bd bz cd cz dz ha hb hc hd =
    let t : ℕ = total_to ws k in
    let w : (ℕ → Bool) → ℕ = λ p. weight ws k p in
    let x : ℕ → Bool = λ n. a n || b n in
    let y : ℕ → Bool = λ n. c n || d n in
    let xc = either k a b c ac bc in
    let xd = either k a b d ad bd in
    let j₁ : w a + w b ≡ w x = join ws k a b ab in
    let j₂ : w c + w d ≡ w y = join ws k c d cd in
    let j₃ : w x + w y ≡ w (λ n. x n || y n) = join ws k x y (flip k y x (either k c d x (flip k x c xc) (flip k x d xd))) in
    let j₄ : w (λ n. x n || y n) + w s ≤ t = weight_apart_lem ws k (λ n. x n || y n) s (either k x y s (either k a b s az bz) (either k c d s cz dz)) in
    let few : 5 * w s ≤ t = omega (arith, one t (w a) (w s) ha, one t (w b) (w s) hb, one t (w c) (w s) hc, one t (w d) (w s) hd) in
    omega (arith, two t (w a) (w s) few ha, two t (w b) (w s) few hb, two t (w c) (w s) few hc, two t (w d) (w s) few hd)

-- ---- over a ledger

-- The total is the sum of the stakes and not 0, and no node has two initial votes in slot s.
pub record Counted (l : Ledger) (s : ℕ) : Type 0 where
  pub sum : total_to l.stakes l.count ≡ l.total
  pub some : 1 ≤ l.total
  pub initial : (n : ℕ) → n < l.count → (none (cell_at l s n).notar || none (cell_at l s n).skip) ≡ true

-- A block with rule D's weights in slot s.
pub record Weighty (l : Ledger) (s b : ℕ) : Type 0 where
  pub block : none b ≡ false
  pub weights : fallback_weights l s b ≡ true

module _ (l : Ledger) (s : ℕ) (h : Counted l s) where
  -- Two blocks have no initial vote in common; nor have a block and skip.
  blocks_part : (d e : ℕ) → eqb d e ≡ false → Apart l.count (λ n. eqb (cell_at l s n).notar d) (λ n. eqb (cell_at l s n).notar e)
  blocks_part d e ne n _ t u = eqb-false d e ne (sym (eqb-true (cell_at l s n).notar d t) ∙ eqb-true (cell_at l s n).notar e u)

  skip_part : (d : ℕ) → none d ≡ false → Apart l.count (λ n. eqb (cell_at l s n).notar d) (λ n. not (none (cell_at l s n).skip))
  skip_part d nd n k t u =
      let c : Cell = cell_at l s n in
      or_cases (none c.notar) (none c.skip) (h.initial n k)
      (λ q. eqb-false d 0 nd (sym (eqb-true c.notar d t) ∙ eqb-true c.notar 0 q))
      (λ q. true_not_false (none c.skip) q (not-true (none c.skip) u))

  -- "a fourth cannot arise": no slot has four blocks that all reach rule D's weights.
  pub no_four_blocks : (a b c d : ℕ) → eqb a b ≡ false → eqb a c ≡ false → eqb a d ≡ false → eqb b c ≡ false → eqb b d ≡ false → eqb c d ≡ false
      → Weighty l s a → Weighty l s b → Weighty l s c → Weighty l s d → ⊥
  unfolding fallback_weights weigh counts
  no_four_blocks a b c d ab ac ad bc bd cd wa wb wc wd =
      let k : ℕ = l.count in
      let skips : ℕ → Bool = λ n. not (none (cell_at l s n).skip) in
      let votes : ℕ → ℕ → Bool = λ x n. eqb (cell_at l s n).notar x in
      let heavy : (x : ℕ) → Weighty l s x → d_weights (total_to l.stakes k) (weight l.stakes k (votes x)) (weight l.stakes k skips) ≡ true =
      λ x w. subst (λ (j : ℕ). d_weights j (weight l.stakes k (votes x)) (weight l.stakes k skips) ≡ true) (sym h.sum) w.weights in
      no_fourth l.stakes k (omega (arith, h.sum, h.some)) (votes a) (votes b) (votes c) (votes d) skips
      (blocks_part a b ab) (blocks_part a c ac) (blocks_part a d ad) (skip_part a wa.block)
      (blocks_part b c bc) (blocks_part b d bd) (skip_part b wb.block)
      (blocks_part c d cd) (skip_part c wc.block) (skip_part d wd.block)
      (heavy a wa) (heavy b wb) (heavy c wc) (heavy d wd)
