-- A list of nodes in ascending order of block and node: its runs are within the blocks' weights, and are them where all that it lists
-- weighs as much as all notar votes. Assumes nothing.
use mathlib.Core.Path.{◌≡◌, refl, sym, ap, ◌∙◌}
use mathlib.Core.Bool.{Bool, true, false, not, ◌&&◌, ◌||◌}
use Prim.Native.Nat.{ℕ, ◌+◌, ◌-◌, ◌≤◌, ◌<◌}
use native.Mathlib.Omega.{arith}
use lib.Dec.{eqb, leb, ltb}
use borrow.Author.Tests.{eq-eqb, ne_eqb, eqb-true, eqb-false, not-true, ltb-true, leb-true}
use Rattle.rulebook.specs.declared.Who.TheVariants as who
use Rattle.rulebook.specs.Tools.{part, sum_to}
use Rattle.rulebook.specs.Weights.{weight, stake_in}
use Rattle.rulebook.specs.Ledger.{Ledger, none, cell_at}
use Rattle.rulebook.specs.Pool.{counts, weigh}
use Rattle.rulebook.specs.Cards.{leads}
use Rattle.rule_laws.proofs.ToolLaws.{and_both, or_cases, by_test, true_not_false, choose_on, choose_off, part_on, part_off, sum_none, sum_more, sum_same, sum_add, sum_const, some_at}
use Rattle.rule_laws.proofs.WeightLaws.{weight_none, weight_mono, weight_both}
use Rattle.recounting.proofs.Leading.{leads_on, leads_off}
use Rattle.vote_orders.specs.Ordering.{Unled, is_led, comes_next, next_run}
use Rattle.vote_orders.proofs.Distinct.{Distinct, distinct_sum}

-- what weighs no more than what does not lead does not lead
leads_less : (m w x b v : ℕ) → w ≤ x → leads m x b v ≡ false → leads m w b v ≡ false
leads_less m w x b v h e =
    by_test (leads m w b v)
    (λ t. leads_off m x b v e (λ i. leads_on m w b v t (λ j. absurd (omega arith)) (λ j k. absurd (omega arith)))
    (λ i d. leads_on m w b v t (λ j. absurd (omega arith)) (λ j k. absurd (omega arith))))
    (λ t. t)

leads_more : (m w x b v : ℕ) → w ≤ x → leads m w b v ≡ true → leads m x b v ≡ true
leads_more m w x b v h e = by_test (leads m x b v) (λ t. t) (λ t. true_not_false (leads m w b v) e (leads_less m w x b v h t))

leads_nothing : (m w b v : ℕ) → w ≡ 0 → 1 ≤ v → leads m w b v ≡ false
leads_nothing m w b v e h =
    by_test (leads m w b v) (λ t. leads_on m w b v t (λ j. absurd (omega arith)) (λ j k. absurd (omega arith))) (λ t. t)

part_split : (b : Bool) (w : ℕ) → part b w + part (not b) w ≡ w
part_split true w = omega (arith, part_on true w refl, part_off false w refl)
part_split false w = omega (arith, part_on true w refl, part_off false w refl)

-- The node at each place of the list.
module _ (l : Ledger) (s b v any : ℕ) (nodeAt : ℕ → ℕ) where
  -- A node's block; the block and the stake at a place.
  abbrev vote_of : ℕ → ℕ
  vote_of n = (cell_at l s n).notar

  abbrev block_at : ℕ → ℕ
  block_at j = vote_of (nodeAt j)

  abbrev stake_at : ℕ → ℕ
  stake_at j = stake_in l.stakes (nodeAt j)

  -- What the first i places have for block m.
  abbrev run_to : ℕ → ℕ → ℕ
  run_to m i = sum_to i (λ j. part (eqb (block_at j) m) (stake_at j))

  -- The first i places are in order; the last has the block `last` and a node below `from`.
  pub record Listed (i last from run rest : ℕ) : Type 0 where
    pub inside : (j : ℕ) → j < i → nodeAt j < l.count
    pub voted : (j : ℕ) → j < i → 1 ≤ block_at j
    pub highest : (j : ℕ) → j < i → block_at j ≤ last
    pub before : (j : ℕ) → j < i → block_at j ≡ last → nodeAt j < from
    pub apart : Distinct i nodeAt
    pub sums : run ≡ run_to last i
    pub all : rest + sum_to i stake_at ≡ any
    pub small : run + rest ≤ any
    pub unled : (m : ℕ) → 1 ≤ m → leads m (run_to m i) b v ≡ false

  pub listed_none : 1 ≤ v → Listed 0 0 0 0 any
  listed_none h =
      record {
        inside = λ j i. absurd (omega arith);
        voted = λ j i. absurd (omega arith);
        highest = λ j i. absurd (omega arith);
        before = λ j i. absurd (omega arith);
        apart = λ i j a c. absurd (omega arith);
        sums = sym (sum_none (λ j. part (eqb (block_at j) 0) (stake_at j)));
        all = omega (arith, sum_none stake_at);
        small = omega arith;
        unled = λ m i. leads_nothing m (run_to m 0) b v (sum_none (λ j. part (eqb (block_at j) m) (stake_at j))) h;
      }

  -- ---- one place further

  module _ {i last from run rest : ℕ} (k : Listed i last from run rest) (n m w next : ℕ) (at-is : n ≡ nodeAt i) (vote : m ≡ vote_of n) (stake : w ≡ stake_in l.stakes n)
      (below : n < l.count) (follows : comes_next last from m n ≡ true) (room : w ≤ rest) (runs : next ≡ next_run last run m w) where
    here_block : block_at i ≡ m
    here_block = ap vote_of (sym at-is) ∙ sym vote

    here_stake : stake_at i ≡ w
    here_stake = ap (stake_in l.stakes) (sym at-is) ∙ sym stake

    -- the block is new, or the same with a later node
    cases : {X : Type 0} → (1 ≤ m → last < m → X) → (1 ≤ m → m ≡ last → from ≤ n → X) → X
    unfolding comes_next
    cases f g =
        let p = and_both (not (none m)) (ltb last m || (eqb m last && leb from n)) follows in
        let z = eqb-false m 0 (not-true (none m) p.0) in
        let some : 1 ≤ m = omega arith in
        or_cases (ltb last m) (eqb m last && leb from n) p.1 (λ t. f some (ltb-true last m t))
        (λ t. let q = and_both (eqb m last) (leb from n) t in g some (eqb-true m last q.0) (leb-true from n q.1))

    some_block_lem : 1 ≤ m
    some_block_lem = cases (λ h d. h) (λ h e d. h)

    prior_block : (j : ℕ) → j < i → block_at j ≤ m
    prior_block j h = cases (λ a d. omega (arith, k.highest j h)) (λ a e d. omega (arith, k.highest j h))

    prior_node : (j : ℕ) → j < i → block_at j ≡ m → nodeAt j < n
    prior_node j h q = cases (λ a d. absurd (omega (arith, k.highest j h))) (λ a e d. omega (arith, k.before j h (q ∙ e)))

    next_sum : next ≡ run_to m i + w
    unfolding next_run
    next_sum =
        cases
        (λ a d. runs ∙ choose_off (eqb m last) (run + w) w (ne_eqb m last (λ z. omega arith))
        ∙ omega (arith, sum_same i (λ j. part (eqb (block_at j) m) (stake_at j)) (λ _. 0) (λ j h. part_off (eqb (block_at j) m) (stake_at j) (ne_eqb (block_at j) m (λ z. omega (arith, k.highest j h)))), sum_const i 0))
        (λ a e d. runs ∙ choose_on (eqb m last) (run + w) w (eq-eqb m last e) ∙ omega (arith, k.sums, ap (λ (x : ℕ). run_to x i) e))

    run_more : (x : ℕ) (t : Bool) → eqb m x ≡ t → run_to x (i + 1) ≡ run_to x i + part t w
    run_more x t e =
        sum_more i (λ j. part (eqb (block_at j) x) (stake_at j)) ∙ ap (λ (y : ℕ). run_to x i + y) (λ z. part ((ap (λ (y : ℕ). eqb y x) here_block ∙ e) z) (here_stake z))

    next_run_lem : run_to m (i + 1) ≡ next
    next_run_lem = omega (arith, next_sum, run_more m true (eq-eqb m m refl), part_on true w refl)

    next_new : last < m → next ≡ w
    unfolding next_run
    next_new d = runs ∙ choose_off (eqb m last) (run + w) w (ne_eqb m last (λ z. omega arith))

    run_same : (x : ℕ) → eqb m x ≡ false → run_to x (i + 1) ≡ run_to x i
    run_same x t = omega (arith, run_more x false t, part_off false w refl)

    next_inside : (j : ℕ) → j < i + 1 → nodeAt j < l.count
    next_inside j h = by_test (eqb j i) (λ t. omega (arith, ap nodeAt (eqb-true j i t))) (λ t. let z = eqb-false j i t in k.inside j (omega arith))

    next_apart : Distinct (i + 1) nodeAt
    next_apart j x a c q =
        by_test (eqb x i)
        (λ t. let y : nodeAt j ≡ n = q ∙ ap nodeAt (eqb-true x i t) ∙ sym at-is in
        let e = eqb-true x i t in omega (arith, prior_node j (omega arith) (ap vote_of y ∙ sym vote)))
        (λ t. let z = eqb-false x i t in k.apart j x a (omega arith) q)

    -- a run is at most its block's weight
    run_within : next ≤ weigh l s (who.Notar m)
    unfolding weigh counts weight
    run_within = omega (arith, next_run_lem, distinct_sum l.count (i + 1) nodeAt (λ x. part (eqb (vote_of x) m) (stake_in l.stakes x)) next_inside next_apart)

    -- so that where it leads, its block does
    pub listed_led : leads m next b v ≡ true → is_led l s b v ≡ true
    unfolding is_led
    listed_led t =
        let here : ℕ → Bool = λ x. not (none x) && leads x (weigh l s (who.Notar x)) b v in
        let some : none m ≡ false = ne_eqb m 0 (λ z. omega (arith, some_block_lem)) in
        let led : leads m (weigh l s (who.Notar m)) b v ≡ true = leads_more m next (weigh l s (who.Notar m)) b v run_within t in
        some_at l.count n (λ x. here (vote_of x)) below (ap here (sym vote) ∙ (λ z. not (some z) && led z))

    pub listed_more : leads m next b v ≡ false → Listed (i + 1) m (n + 1) next (rest - w)
    listed_more off =
        record {
          inside = next_inside;
          voted = λ j h. by_test (eqb j i) (λ t. omega (arith, ap block_at (eqb-true j i t), here_block, some_block_lem)) (λ t. let z = eqb-false j i t in k.voted j (omega arith));
          highest = λ j h. by_test (eqb j i) (λ t. omega (arith, ap block_at (eqb-true j i t), here_block)) (λ t. let z = eqb-false j i t in prior_block j (omega arith));
          before = λ j h q. by_test (eqb j i) (λ t. omega (arith, ap nodeAt (eqb-true j i t)))
              (λ t. let z = eqb-false j i t in omega (arith, prior_node j (omega arith) q));
          apart = next_apart;
          sums = sym next_run_lem;
          all = omega (arith, k.all, sum_more i stake_at, here_stake);
          small = cases (λ a d. omega (arith, k.small, next_sum, next_new d)) (λ a e d. omega (arith, k.small, next_sum, k.sums, ap (λ (x : ℕ). run_to x i) e));
          unled = λ x h. by_test (eqb m x)
              (λ t. ap (λ (y : ℕ). leads y (run_to y (i + 1)) b v) (sym (eqb-true m x t)) ∙ ap (λ (y : ℕ). leads m y b v) next_run_lem ∙ off)
              (λ t. ap (λ (y : ℕ). leads x y b v) (run_same x t) ∙ k.unled x h);
        }

  -- ---- the end

  module _ {i last from run rest : ℕ} (k : Listed i last from run rest) (done : rest ≡ 0) (is : any ≡ weigh l s who.AnyNotar) where
    -- Node n votes for another block than m.
    abbrev other : ℕ → ℕ → Bool
    other m n = not (none (vote_of n)) && not (eqb (vote_of n) m)

    others_within : (m : ℕ) → sum_to i (λ j. part (not (eqb (block_at j) m)) (stake_at j)) ≤ weight l.stakes l.count (other m)
    unfolding weight
    others_within m =
        omega (
          arith,
          sum_same i (λ j. part (not (eqb (block_at j) m)) (stake_at j)) (λ j. part (other m (nodeAt j)) (stake_at j))
              (λ j h. λ z. part (sym (ap (λ (t : Bool). not t && not (eqb (block_at j) m)) (ne_eqb (block_at j) 0 (λ y. omega (arith, k.voted j h)))) z) (stake_at j)),
          distinct_sum l.count i nodeAt (λ n. part (other m n) (stake_in l.stakes n)) k.inside k.apart,
        )

    all_apart : (m : ℕ) → 1 ≤ m → weigh l s (who.Notar m) + weight l.stakes l.count (other m) ≤ weigh l s who.AnyNotar
    unfolding weigh counts
    all_apart m some =
        let p : ℕ → Bool = (λ n. eqb (vote_of n) m) in
        omega (
          arith,
          weight_both l.stakes l.count p (other m),
          weight_none l.stakes l.count (λ n. p n && other m n)
              (λ n h. by_test (p n && other m n)
              (λ t. let z = and_both (p n) (other m n) t in
              true_not_false (p n) z.0 (not-true (p n) (and_both (not (none (vote_of n))) (not (eqb (vote_of n) m)) z.1).1))
              (λ t. t)),
          weight_mono l.stakes l.count (λ n. p n || other m n) (λ n. not (none (vote_of n)))
              (λ n h t. or_cases (p n) (other m n) t (λ u. ap not (ne_eqb (vote_of n) 0 (λ z. omega (arith, eqb-true (vote_of n) m u))))
              (λ u. (and_both (not (none (vote_of n))) (not (eqb (vote_of n) m)) u).0)),
        )

    -- a block's run is its weight
    run_weighs : (m : ℕ) → 1 ≤ m → weigh l s (who.Notar m) ≤ run_to m i
    run_weighs m some =
        omega (
          arith,
          k.all,
          all_apart m some,
          others_within m,
          sum_add i (λ j. part (eqb (block_at j) m) (stake_at j)) (λ j. part (not (eqb (block_at j) m)) (stake_at j)),
          sum_same i (λ j. part (eqb (block_at j) m) (stake_at j) + part (not (eqb (block_at j) m)) (stake_at j)) stake_at (λ j h. part_split (eqb (block_at j) m) (stake_at j)),
        )

    pub listed_end : Unled l s b v
    listed_end m some = leads_less m (weigh l s (who.Notar m)) (run_to m i) b v (run_weighs m some) (k.unled m some)
