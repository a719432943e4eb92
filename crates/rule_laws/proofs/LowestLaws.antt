-- Laws of the lowest block that passes and of the largest amount over a list of blocks: what they are, that only the passing
-- blocks matter, one block further, and which blocks a slot's votes name. Assumes nothing.
use mathlib.Core.Path.{◌≡◌, refl, sym, ap, ◌∙◌}
use mathlib.Core.Bool.{Bool, true, false, not, ◌&&◌}
use mathlib.Core.List.{List, [], ◌∷◌}
use mathlib.Core.Logic.{⊎_elim}
use Prim.Native.Nat.{ℕ, zero, suc, ◌≤◌, ◌<◌}
use native.Mathlib.Omega.{arith}
use native.Mathlib.Nat.{eq-or-lt_of_le, min-eq_left, min-eq_right, le-max_left, le-max_right}
use lib.Dec.{eqb, leb, ltb}
use borrow.Author.Tests.{eq-eqb, ne_eqb, eqb-true, eqb-false, leb-true, leb-false, ltb-true, lt-ltb, not-true}
use Rattle.rulebook.specs.declared.Who.TheVariants as who
use Rattle.rulebook.specs.Tools.{any_of, some_to, lower, lowest, largest}
use Rattle.rulebook.specs.Ledger.{Ledger, none, cell_at}
use Rattle.rulebook.specs.Pool.{counts, weigh, named, names_to, names}
use Rattle.rule_laws.proofs.ToolLaws.{given_on, given_off, by_test, and_both, both_and, or_cases, or_left, or_right, or_none, true_not_false, some_find, some_each}
use Rattle.rule_laws.proofs.WeightLaws.{weight_none}

-- The block stands in the list.
abbrev pub Among : ℕ → List ℕ → Type 0
Among b bs = any_of (eqb b) bs ≡ true

-- No 0 stands in it.
abbrev pub ZeroFree : List ℕ → Type 0
ZeroFree bs = any_of (eqb 0) bs ≡ false

-- ---- lists of names

pub named_off : (b : ℕ) (bs : List ℕ) → none b ≡ true → named b bs ≡ bs
unfolding named
named_off b bs e = given_off (not (none b)) bs (λ _. b ∷ bs) (ap not e)

pub named_on : (b : ℕ) (bs : List ℕ) → none b ≡ false → named b bs ≡ b ∷ bs
unfolding named
named_on b bs e = given_on (not (none b)) bs (λ _. b ∷ bs) (ap not e)

pub among_named : (b x : ℕ) (bs : List ℕ) → Among b bs → Among b (named x bs)
unfolding any_of
among_named b x bs h =
    by_test (none x) (λ e. rw (named_off x bs e) h) (λ e. rw (named_on x bs e) (or_right (eqb b x) (any_of (eqb b) bs) h))

pub among_name : (b x : ℕ) (bs : List ℕ) → b ≡ x → none x ≡ false → Among b (named x bs)
unfolding any_of
among_name b x bs h e = rw (named_on x bs e) (or_left (eqb b x) (any_of (eqb b) bs) (eq-eqb b x h))

-- a block of the list with a name more is that name or was there
pub named_cases {ℓ} : {X : Type ℓ} (b x : ℕ) (bs : List ℕ) → Among b (named x bs) → (none x ≡ false → b ≡ x → X) → (Among b bs → X) → X
unfolding any_of
named_cases b x bs h f g =
    by_test (none x) (λ e. g (rw (named_off x bs e) at h))
    (λ e. or_cases (eqb b x) (any_of (eqb b) bs) (rw (named_on x bs e) at h) (λ t. f e (eqb-true b x t)) g)

pub free_none : ZeroFree []
unfolding any_of
free_none = refl

pub free_named : (x : ℕ) (bs : List ℕ) → ZeroFree bs → ZeroFree (named x bs)
unfolding any_of
free_named x bs h =
    by_test (none x) (λ e. rw (named_off x bs e) h)
    (λ e. rw (named_on x bs e, ne_eqb 0 x (λ q. eqb-false x 0 e (sym q))) h)

-- ---- the lower of two

module _ {ℓ} {X : Type ℓ} (b m : ℕ) where
  pub lower_cases : (m ≡ 0 → lower true b m ≡ b → X) → (1 ≤ m → b ≤ m → lower true b m ≡ b → X) → (1 ≤ m → m < b → lower true b m ≡ m → X) → X
  unfolding lower
  lower_cases f g k =
      by_test (eqb m 0) (λ e. f (eqb-true m 0 e) (rw e))
      (λ e.
      let h : 1 ≤ m = omega (arith, eqb-false m 0 e) in
      by_test (leb b m) (λ t. let i = leb-true b m t in g h i (rw e (min-eq_left i)))
      (λ t. let i = leb-false b m t in k h i (rw e (min-eq_right (omega arith)))))

pub lower_off : (b m : ℕ) → lower false b m ≡ m
unfolding lower
lower_off b m = refl

-- as the code tells the three ways apart
pub lower_stays : (t : Bool) (b m : ℕ) → t ≡ true → (not (eqb m 0) && ltb m b) ≡ true → lower t b m ≡ m
lower_stays t b m e d =
    let h = and_both (not (eqb m 0)) (ltb m b) d in
    let f = eqb-false m 0 (not-true (eqb m 0) h.0) in
    let i = ltb-true m b h.1 in
    ap (λ (x : Bool). lower x b m) e ∙ lower_cases b m (λ q k. absurd (f q)) (λ q j k. absurd (omega arith)) (λ q j k. k)

pub lower_goes : (t : Bool) (b m : ℕ) → t ≡ true → (not (eqb m 0) && ltb m b) ≡ false → lower t b m ≡ b
lower_goes t b m e d =
    ap (λ (x : Bool). lower x b m) e
    ∙ lower_cases b m (λ q k. k) (λ q j k. k)
    (λ q j k. true_not_false (not (eqb m 0) && ltb m b) (both_and (not (eqb m 0)) (ltb m b) (ap not (ne_eqb m 0 (λ z. omega arith))) (lt-ltb m b j)) d)

-- ---- the lowest

module _ (p : ℕ → Bool) (x : ℕ) (bs : List ℕ) (r : ℕ) where
  find_here : r ≡ x → p x ≡ true → Among r (x ∷ bs) × (p r ≡ true)
  unfolding any_of
  find_here q e = (or_left (eqb r x) (any_of (eqb r) bs) (eq-eqb r x q), ap p q ∙ e)

  find_there : (m : ℕ) → r ≡ m → Among m bs × (p m ≡ true) → Among r (x ∷ bs) × (p r ≡ true)
  unfolding any_of
  find_there m q h =
      (or_right (eqb r x) (any_of (eqb r) bs) (ap (λ (k : ℕ). any_of (eqb k) bs) q ∙ h.0), ap p q ∙ h.1)

-- the lowest is one that passes
pub low_find : (p : ℕ → Bool) (bs : List ℕ) → 1 ≤ lowest p bs → Among (lowest p bs) bs × (p (lowest p bs) ≡ true)
unfolding lowest
low_find p [] h = absurd (omega arith)
low_find p (x ∷ bs) h =
    by_test (p x)
    (λ e.
    let w : lowest p (x ∷ bs) ≡ lower true x (lowest p bs) = ap (λ (t : Bool). lower t x (lowest p bs)) e in
    lower_cases x (lowest p bs) (λ i q. find_here p x bs (lowest p (x ∷ bs)) (w ∙ q) e) (λ i k q. find_here p x bs (lowest p (x ∷ bs)) (w ∙ q) e)
    (λ i k q. find_there p x bs (lowest p (x ∷ bs)) (lowest p bs) (w ∙ q) (low_find p bs i)))
    (λ e.
    let w : lowest p (x ∷ bs) ≡ lowest p bs = ap (λ (t : Bool). lower t x (lowest p bs)) e ∙ lower_off x (lowest p bs) in
    find_there p x bs (lowest p (x ∷ bs)) (lowest p bs) w (low_find p bs (omega arith)))

-- and no higher than any that passes
pub low_le : (p : ℕ → Bool) (bs : List ℕ) (b : ℕ) → ZeroFree bs → Among b bs → p b ≡ true → (1 ≤ lowest p bs) × (lowest p bs ≤ b)
unfolding lowest any_of
low_le p [] b z h e = true_not_false false h refl
low_le p (x ∷ bs) b z h e =
    let y = or_none (eqb 0 x) (any_of (eqb 0) bs) z in
    let m : ℕ = lowest p bs in
    or_cases (eqb b x) (any_of (eqb b) bs) h
    (λ t.
    let q = eqb-true b x t in
    let w : lowest p (x ∷ bs) ≡ lower true x (lowest p bs) = ap (λ (t : Bool). lower t x (lowest p bs)) (ap p (sym q) ∙ e) in
    let f : 1 ≤ x = omega (arith, eqb-false 0 x y.0) in
    lower_cases x (lowest p bs) (λ i k. omega arith) (λ i j k. omega arith) (λ i j k. omega arith))
    (λ t.
    let d = low_le p bs b y.1 t e in
    let f : 1 ≤ x = omega (arith, eqb-false 0 x y.0) in
    by_test (p x)
    (λ u.
    let w : lowest p (x ∷ bs) ≡ lower true x (lowest p bs) = ap (λ (t : Bool). lower t x (lowest p bs)) u in
    lower_cases x (lowest p bs) (λ i k. omega arith) (λ i j k. omega arith) (λ i j k. omega arith))
    (λ u.
    let w : lowest p (x ∷ bs) ≡ lowest p bs = ap (λ (t : Bool). lower t x (lowest p bs)) u ∙ lower_off x (lowest p bs) in
    omega arith))

-- only the blocks that pass matter
pub lowest_same : (p : ℕ → Bool) (xs ys : List ℕ) → ZeroFree xs → ZeroFree ys
    → ((b : ℕ) → Among b xs → p b ≡ true → Among b ys) → ((b : ℕ) → Among b ys → p b ≡ true → Among b xs) → lowest p xs ≡ lowest p ys
lowest_same p xs ys x y f g =
    by_test (leb 1 (lowest p xs))
    (λ t.
    let a = low_find p xs (leb-true 1 (lowest p xs) t) in
    let d = low_le p ys (lowest p xs) y (f (lowest p xs) a.0 a.1) a.1 in
    let c = low_find p ys d.0 in
    omega (arith, (low_le p xs (lowest p ys) x (g (lowest p ys) c.0 c.1) c.1).1))
    (λ t.
    let o : lowest p xs ≡ 0 = omega (arith, leb-false 1 (lowest p xs) t) in
    by_test (leb 1 (lowest p ys))
    (λ u.
    let c = low_find p ys (leb-true 1 (lowest p ys) u) in
    omega (arith, (low_le p xs (lowest p ys) x (g (lowest p ys) c.0 c.1) c.1).0))
    (λ u. omega (arith, leb-false 1 (lowest p ys) u)))

pub lowest_none : (p : ℕ → Bool) → lowest p [] ≡ 0
unfolding lowest
lowest_none p = refl

-- ---- the largest

pub large_at : (f : ℕ → ℕ) (bs : List ℕ) (b : ℕ) → Among b bs → f b ≤ largest f bs
unfolding largest any_of
large_at f [] b h = true_not_false false h refl
large_at f (x ∷ bs) b h =
    or_cases (eqb b x) (any_of (eqb b) bs) h (λ t. let e : f b ≡ f x = ap f (eqb-true b x t) in omega (arith, le-max_left (f x) (largest f bs)))
    (λ t. omega (arith, large_at f bs b t, le-max_right (f x) (largest f bs)))

pub free_positive : (bs : List ℕ) (b : ℕ) → ZeroFree bs → Among b bs → 1 ≤ b
free_positive bs zero z h = true_not_false (any_of (eqb 0) bs) h z
free_positive bs (suc b) z h = omega arith

-- ---- one block further

module _ (b : ℕ) (bs : List ℕ) where
  pub lowest_skip : (p : ℕ → Bool) → b ≡ 0 → lowest p (named b bs) ≡ lowest p bs
  lowest_skip p e = ap (lowest p) (named_off b bs (eq-eqb b 0 e))

  pub lowest_take : (p : ℕ → Bool) → (b ≡ 0 → ⊥) → lowest p (named b bs) ≡ lower (p b) b (lowest p bs)
  unfolding lowest
  lowest_take p e = ap (lowest p) (named_on b bs (ne_eqb b 0 e))

  -- a block that is there already changes nothing
  pub lowest_again : (p : ℕ → Bool) → ZeroFree bs → Among b bs → lowest p (named b bs) ≡ lowest p bs
  lowest_again p z h =
      lowest_same p (named b bs) bs (free_named b bs z) z
      (λ x k e. named_cases x b bs k (λ t q. ap (λ (y : ℕ). any_of (eqb y) bs) q ∙ h) (λ t. t))
      (λ x k e. among_named x b bs k)

-- ---- the blocks that a slot's votes name

module _ (l : Ledger) (s : ℕ) where
  pub names_free : (n : ℕ) → ZeroFree (names_to l s n)
  unfolding names_to
  names_free zero = free_none
  names_free (suc n) =
      let c = cell_at l s n in
      let d = named c.fallback3 (names_to l s n) in
      let e = named c.fallback2 d in
      free_named c.notar (named c.fallback1 e)
      (free_named c.fallback1 e (free_named c.fallback2 d (free_named c.fallback3 (names_to l s n) (names_free n))))

  -- the block of a node's notar vote is a name
  voted_named : (n i b : ℕ) → i < n → (cell_at l s i).notar ≡ b → 1 ≤ b → Among b (names_to l s n)
  unfolding names_to
  voted_named zero i b h e k = absurd (omega arith)
  voted_named (suc n) i b h e k =
      let c = cell_at l s n in
      let d = named c.fallback3 (names_to l s n) in
      let g = named c.fallback2 d in
      ⊎_elim
      (λ (q : i ≡ n).
      let f : b ≡ c.notar = sym e ∙ ap (λ (j : ℕ). (cell_at l s j).notar) q in
      among_name b c.notar (named c.fallback1 g) f (ne_eqb c.notar 0 (λ o. omega arith)))
      (λ q.
      among_named b c.notar (named c.fallback1 g) (among_named b c.fallback1 g
      (among_named b c.fallback2 d (among_named b c.fallback3 (names_to l s n) (voted_named n i b q e k)))))
      (eq-or-lt_of_le {n = i} {m = n} (omega arith))

  -- a block with notar weight is a name
  pub heavy_named : (b : ℕ) → 1 ≤ b → 1 ≤ weigh l s (who.Notar b) → Among b (names l s)
  unfolding weigh counts names
  heavy_named b k h =
      by_test (some_to l.count (λ n. eqb (cell_at l s n).notar b))
      (λ t.
      let f = some_find l.count (λ n. eqb (cell_at l s n).notar b) t in
      voted_named l.count f.0 b f.1 (eqb-true (cell_at l s f.0).notar b f.2) k)
      (λ t.
      let z = weight_none l.stakes l.count (λ n. eqb (cell_at l s n).notar b) (λ i d. some_each l.count i (λ n. eqb (cell_at l s n).notar b) t d) in
      absurd (omega arith))
