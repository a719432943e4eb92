-- Why no slot is left undecided: the whole argument, over what honest nodes cast, keep and have in their pools.
use mathlib.Core.Path.{◌≡◌, refl, subst}
use mathlib.Core.Bool.{Bool, true, false, not, ◌&&◌, ◌||◌}
use mathlib.Core.List.{List}
use Prim.Native.Nat.{ℕ, zero, suc, ◌*◌, ◌≤◌, ◌<◌}
use native.Mathlib.Omega.{arith}
use native.Mathlib.Decide.{ℕ_discrete}
use lib.Dec.{T, leb, leb→le, nleb→lt, T_not}
use Rattle.rulebook.specs.Tools.{part}
use Rattle.rulebook.specs.Weights.{weight, total_to, is_first}
use Rattle.safety.specs.Slot.{Ballot, notar, notar_fallback, skip, skip_fallback, final, Test, Heavy, Quorum, Lawful}
use Rattle.safety.proofs.Tests.{and_t, T_and, or_t, T-left, T-right, by_test}
use Rattle.safety.proofs.Weighing.{reaches_le, le_reaches, weight_mono, weight_cover, weight_apart_lem, weight_find, weight_zero}
use Rattle.progress.specs.Rest.{HeldThree, HeldFour, Initial, voted, skips, Elsewhere, skipped, other, Opposed, Grounded, Resting, honest_for, Decided, backed, passed, Still, SlotsDecided, NextArmed}
use Rattle.progress.proofs.Ascending.{not_first_some, all_going, armed_behind}

-- The whole table weighs the total.
weight_all : (ws : List ℕ) (k : ℕ) → weight ws k (λ n. true) ≡ total_to ws k
unfolding weight total_to part
weight_all ws k = refl

honest_or : (h : Bool) → T (h || not h)
honest_or true = tt
honest_or false = tt

split : (h c : Bool) → T h → T (h && not c || h && c)
split true true t = tt
split true false t = tt
split false c t = absurd t

-- One of two.
data Either (A B : Type 0) : Type 0 where
  left : A → Either A B
  right : B → Either A B

module _ (ws : List ℕ) (k : ℕ) (honest : Test) (genesis : ℕ → ℕ) (cast : ℕ → ℕ → Ballot → Bool) (kept : ℕ → ℕ → ℕ → ℕ → ℕ → Bool)
    (pool : ℕ → ℕ → ℕ → Ballot → Bool) (armed : ℕ → ℕ → Bool) (u : ℕ) (still : Still ws k honest genesis cast kept pool armed u) where
  abbrev Three : ℕ → ℕ → ℕ → Type 0
  Three n s b = HeldThree ws k honest genesis cast kept pool armed n s b

  abbrev Four : ℕ → ℕ → Type 0
  Four n s = HeldFour ws k honest genesis cast kept pool armed n s

  abbrev Init : ℕ → ℕ → Type 0
  Init n s = Initial ws k honest genesis cast kept pool armed n s

  abbrev for : ℕ → ℕ → ℕ
  for s b = honest_for ws k honest genesis cast kept pool armed s b

  abbrev total : ℕ
  total = total_to ws k

  abbrev law : (s n : ℕ) → T (honest n) → Lawful ws k honest (cast s) n
  law s n h = still.slots n h s

  abbrev rest : (n : ℕ) → T (honest n) → Resting ws k honest genesis cast kept pool armed n
  rest n h = still.resting n h

  -- ---- weights

  -- Honest stake is over four fifths.
  pub honest_heavy : 4 * total < 5 * weight ws k honest
  honest_heavy =
      omega (
        arith,
        still.few,
        weight_all ws k,
        weight_cover ws k (λ n. true) honest (λ n. not (honest n)) (λ n t. honest_or (honest n)),
      )

  -- So there is an honest node.
  pub some_honest : (n : ℕ) × T (honest n)
  some_honest =
      let v = weight_find ws k honest (λ n. false) (omega (arith, honest_heavy, weight_zero ws k (λ n. false) (λ n l. tt))) in (v.0, v.1)

  -- A set with all honest nodes reaches 60.
  all_reach : (p : Test) → ((n : ℕ) → T (honest n) → T (p n)) → Heavy 3 ws k p
  all_reach p f = le_reaches 3 total (weight ws k p) (omega (arith, honest_heavy, weight_mono ws k honest p f))

  -- 60 for block c in an honest eye are more than 40 of honest initial votes.
  quorum_for : (s c : ℕ) → Quorum ws k honest (cast s) 3 (notar c) → 2 * total < 5 * for s c
  quorum_for s c q =
      omega (
        arith,
        still.few,
        reaches_le 3 total (weight ws k q.set) q.heavy,
        weight_cover ws k q.set (λ n. honest n && cast s n (notar c)) (λ n. not (honest n))
            (λ n t. by_test (honest n)
            (λ h. T-left (honest n && cast s n (notar c)) (not (honest n)) (T_and (honest n) (cast s n (notar c)) h (q.all n h t)))
            (λ h. T-right (honest n && cast s n (notar c)) (not (honest n)) h)),
      )

  -- ---- finals

  -- With more than 40 of honest initial votes for b an honest final is by a node that voted b.
  final_for : (s b n : ℕ) → T (honest n) → 2 * total < 5 * for s b → T (cast s n final) → T (cast s n (notar b))
  final_for s b n h y t =
      let f = (law s n h).final_notar t in
      elim (ℕ_discrete f.0 b) [
        | yes e ↦ subst (λ (c : ℕ). T (cast s n (notar c))) e f.1
        | no ne ↦ absurd (omega (
          arith,
          reaches_le 3 total (weight ws k f.2.set) f.2.heavy,
          weight_apart_lem ws k f.2.set (λ m. honest m && cast s m (notar b))
              (λ m x z. let a = and_t (honest m) (cast s m (notar b)) z in ne ((law s m a.0).one_notar f.0 b (f.2.all m a.0 x) a.1)),
        ))
      ]

  -- ---- a block with more than 40 of honest initial votes

  -- Every honest node stands behind it.
  behind : (s b : ℕ) → 1 ≤ s → s ≤ u → ((n : ℕ) → T (honest n) → Init n s) → 2 * total < 5 * for s b
      → (T (not (is_first s)) → (n : ℕ) → T (honest n) → Grounded ws k honest genesis cast kept pool armed n s b)
      → (n : ℕ) → T (honest n) → T (cast s n (notar b) || cast s n (notar_fallback b))
  behind s b lo hi init y ground n h =
      by_test (cast s n (notar b)) (λ t. T-left (cast s n (notar b)) (cast s n (notar_fallback b)) t)
      (λ t. T-right (cast s n (notar b)) (cast s n (notar_fallback b))
      ((rest n h).falls_back s b lo (omega (arith, still.last)) (init n h) (T_not (cast s n (notar b)) t)
      (λ f. T_not (cast s n (notar b)) t (final_for s b n h y f))
      (le_reaches 2 total (weight ws k (λ m. pool n s m (notar b)))
      (omega (
        arith,
        weight_mono ws k (λ m. honest m && cast s m (notar b)) (λ m. pool n s m (notar b))
            (λ m z. let a = and_t (honest m) (cast s m (notar b)) z in still.arrived.votes n m s (notar b) h a.0 lo hi tt a.1),
      )))
      (λ f. ground f n h)))

  three_held : (s b : ℕ) → 1 ≤ s → s ≤ u → ((n : ℕ) → T (honest n) → T (cast s n (notar b) || cast s n (notar_fallback b))) → (n : ℕ) → T (honest n) → Three n s b
  three_held s b lo hi all n h =
      all_reach (λ m. pool n s m (notar b) || pool n s m (notar_fallback b))
      (λ m g. or_t (cast s m (notar b)) (cast s m (notar_fallback b)) (all m g)
      (λ t. T-left (pool n s m (notar b)) (pool n s m (notar_fallback b)) (still.arrived.votes n m s (notar b) h g lo hi tt t))
      (λ t. T-right (pool n s m (notar b)) (pool n s m (notar_fallback b)) (still.arrived.votes n m s (notar_fallback b) h g lo hi tt t)))

  -- The parent of such a block, outside first slots: one for all its voters, and with no fewer votes in the slot before.
  record Parent (s b : ℕ) : Type 0 where
    pub parent : ℕ
    pub node : ℕ
    pub is_honest : T (honest node)
    pub votes : T (cast (suc s) node (notar b))
    pub keeps : T (kept node (suc s) b s parent)
    pub more : for (suc s) b ≤ for s parent

  parent_of : (s b : ℕ) → suc s ≤ u → T (not (is_first (suc s))) → 2 * total < 5 * for (suc s) b → Parent s b
  parent_of s b hi nf y =
      let v = weight_find ws k (λ n. honest n && cast (suc s) n (notar b)) (λ n. false) (omega (arith, weight_zero ws k (λ n. false) (λ n l. tt))) in
      let a = and_t (honest v.0) (cast (suc s) v.0 (notar b)) v.1 in
      let f = still.follows v.0 a.0 (suc s) b nf a.1 in
      record {
        parent = f.parent;
        node = v.0;
        is_honest = a.0;
        votes = a.1;
        keeps = subst (λ (j : ℕ). T (kept v.0 (suc s) b j f.parent)) (omega (arith, f.before)) f.keeps;
        more = weight_mono ws k (λ n. honest n && cast (suc s) n (notar b)) (λ n. honest n && cast s n (notar f.parent))
            (λ n z. let c = and_t (honest n) (cast (suc s) n (notar b)) z in
            let g = still.follows n c.0 (suc s) b nf c.1 in
            let o = still.alone v.0 (suc s) b g.slot g.parent f.slot f.parent a.0
            (still.arrived.blocks n v.0 (suc s) b g.slot g.parent c.0 a.0 hi nf c.1 g.keeps (le_reaches 2 total (for (suc s) b) (omega arith)))
            f.keeps in
            T_and (honest n) (cast s n (notar f.parent)) c.0
            (subst (λ (x : ℕ). T (cast s n (notar x))) o.1
            (subst (λ (j : ℕ). T (cast j n (notar g.parent))) (omega (arith, g.before)) g.voted)));
      }

  -- So every honest node stands behind it, by way of its parents down to the window's first slot.
  strong : (s b : ℕ) → 1 ≤ s → s ≤ u → ((t : ℕ) → 1 ≤ t → t ≤ s → (n : ℕ) → T (honest n) → Init n t) → 2 * total < 5 * for s b
      → (n : ℕ) → T (honest n) → T (cast s n (notar b) || cast s n (notar_fallback b))
  strong zero b lo hi init y n h = absurd (omega arith)
  strong (suc s) b lo hi init y n h =
      behind (suc s) b lo hi (init (suc s) lo (omega arith)) y
      (λ nf m g. let p = parent_of s b hi nf y in
      let one = not_first_some s nf in
      record {
        slot = s;
        parent = p.parent;
        keeps = still.arrived.blocks p.node m (suc s) b s p.parent p.is_honest g hi nf p.votes p.keeps
            (le_reaches 2 total (for (suc s) b) (omega arith));
        some = one;
        lower = omega arith;
        held = three_held s p.parent one (omega arith) (strong s p.parent one (omega arith) (λ t x z. init t x (omega arith)) (omega (arith, p.more))) m g;
      })
      n h

  -- ---- no block with more than 40 of honest initial votes

  module _ (s : ℕ) (lo : 1 ≤ s) (hi : s ≤ u) (init : (n : ℕ) → T (honest n) → Init n s) where
    -- It is found by looking, or there is none.
    abbrev Spread : Type 0
    Spread = (b : ℕ) → 5 * for s b ≤ 2 * total

    look : (j : ℕ) → Either ((b : ℕ) × (2 * total < 5 * for s b)) ((n : ℕ) → n < j → T (honest n) → (b : ℕ) → T (cast s n (notar b)) → 5 * for s b ≤ 2 * total)
    look zero = right (λ n l h b t. absurd (omega arith))
    look (suc j) = go (look j)
      where
        before : ((n : ℕ) → n < j → T (honest n) → (b : ℕ) → T (cast s n (notar b)) → 5 * for s b ≤ 2 * total)
            → (T (honest j) → (b : ℕ) → T (cast s j (notar b)) → 5 * for s b ≤ 2 * total)
            → (n : ℕ) → n < suc j → T (honest n) → (b : ℕ) → T (cast s n (notar b)) → 5 * for s b ≤ 2 * total
        before f g n l h b t =
            elim (ℕ_discrete n j) [
              | yes e ↦ g (subst (λ (m : ℕ). T (honest m)) e h) b (subst (λ (m : ℕ). T (cast s m (notar b))) e t)
              | no ne ↦ f n (omega arith) h b t
            ]

        here : ((n : ℕ) → n < j → T (honest n) → (b : ℕ) → T (cast s n (notar b)) → 5 * for s b ≤ 2 * total) → (h : T (honest j)) → Init j s
            → Either ((b : ℕ) × (2 * total < 5 * for s b)) ((n : ℕ) → n < suc j → T (honest n) → (b : ℕ) → T (cast s n (notar b)) → 5 * for s b ≤ 2 * total)
        here f h (skips t) = right (before f (λ g b x. absurd ((law s j h).notar_or_skip b x t)))
        here f h (voted c t) =
            by_test (leb (5 * for s c) (2 * total))
            (λ x. right (before f (λ g b z. subst (λ (d : ℕ). 5 * for s d ≤ 2 * total) ((law s j h).one_notar c b t z) (leb→le (5 * for s c) (2 * total) x))))
            (λ x. left (c, nleb→lt (5 * for s c) (2 * total) x))

        go : Either ((b : ℕ) × (2 * total < 5 * for s b)) ((n : ℕ) → n < j → T (honest n) → (b : ℕ) → T (cast s n (notar b)) → 5 * for s b ≤ 2 * total)
            → Either ((b : ℕ) × (2 * total < 5 * for s b)) ((n : ℕ) → n < suc j → T (honest n) → (b : ℕ) → T (cast s n (notar b)) → 5 * for s b ≤ 2 * total)
        go (left x) = left x
        go (right f) = by_test (honest j) (λ h. here f h (init j h)) (λ nh. right (before f (λ g. absurd (T_not (honest j) nh g))))

    spread_all : ((n : ℕ) → n < k → T (honest n) → (b : ℕ) → T (cast s n (notar b)) → 5 * for s b ≤ 2 * total) → Spread
    spread_all f b =
        by_test (leb (5 * for s b) (2 * total)) (λ x. leb→le (5 * for s b) (2 * total) x)
        (λ x. let big : 2 * total < 5 * for s b = nleb→lt (5 * for s b) (2 * total) x in
        let v = weight_find ws k (λ n. honest n && cast s n (notar b)) (λ n. false) (omega (arith, weight_zero ws k (λ n. false) (λ n l. tt))) in
        let a = and_t (honest v.0) (cast s v.0 (notar b)) v.1 in
        f v.0 (still.in_table v.0 a.0) a.0 b a.1)

    -- Then no honest final stands.
    no_final_lem : Spread → (n : ℕ) → T (honest n) → ¬ T (cast s n final)
    no_final_lem sp n h t = let f = (law s n h).final_notar t in omega (arith, quorum_for s f.0 f.2, sp f.0)

    -- And for every block 40 of initial votes, in any honest pool, are not for it.
    opposed : Spread → (n : ℕ) → T (honest n) → (b : ℕ) → Opposed ws k honest genesis cast kept pool armed n s b
    opposed sp n h b =
        record {
          set = λ m. honest m && not (cast s m (notar b));
          all = λ m t. let a = and_t (honest m) (not (cast s m (notar b))) t in elsewhere m a.0 a.1 (init m a.0);
          heavy = le_reaches 2 total (weight ws k (λ m. honest m && not (cast s m (notar b))))
              (omega (
                arith,
                honest_heavy,
                sp b,
                weight_cover ws k honest (λ m. honest m && not (cast s m (notar b))) (λ m. honest m && cast s m (notar b)) (λ m t. split (honest m) (cast s m (notar b)) t),
              ));
        }
      where
        elsewhere : (m : ℕ) → T (honest m) → T (not (cast s m (notar b))) → Init m s → Elsewhere ws k honest genesis cast kept pool armed n s m b
        elsewhere m g nb (skips t) = skipped (still.arrived.votes n m s skip h g lo hi tt t)
        elsewhere m g nb (voted c t) =
            other c (λ e. T_not (cast s m (notar b)) nb (subst (λ (d : ℕ). T (cast s m (notar d))) e t)) (still.arrived.votes n m s (notar c) h g lo hi tt t)

    -- So every honest node skips or has fallen back to skip.
    skips_all : Spread → (n : ℕ) → T (honest n) → Init n s → T (cast s n skip || cast s n skip_fallback)
    skips_all sp n h (skips t) = T-left (cast s n skip) (cast s n skip_fallback) t
    skips_all sp n h (voted c t) =
        T-right (cast s n skip) (cast s n skip_fallback)
        ((rest n h).skips_late s c lo (omega (arith, still.last)) t (no_final_lem sp n h) (opposed sp n h))

    four_held : Spread → (n : ℕ) → T (honest n) → Four n s
    four_held sp n h =
        all_reach (λ m. pool n s m skip || pool n s m skip_fallback)
        (λ m g. or_t (cast s m skip) (cast s m skip_fallback) (skips_all sp m g (init m g))
        (λ t. T-left (pool n s m skip) (pool n s m skip_fallback) (still.arrived.votes n m s skip h g lo hi tt t))
        (λ t. T-right (pool n s m skip) (pool n s m skip_fallback) (still.arrived.votes n m s skip_fallback h g lo hi tt t)))

  -- ---- a slot, once all up to it are armed

  decide : (s : ℕ) → 1 ≤ s → s ≤ u → ((t : ℕ) → 1 ≤ t → t ≤ s → (n : ℕ) → T (honest n) → Init n t) → Decided ws k honest genesis cast kept pool armed s
  decide s lo hi init = go (look s lo hi (init s lo (omega arith)) k)
    where
      go : Either ((b : ℕ) × (2 * total < 5 * for s b)) ((n : ℕ) → n < k → T (honest n) → (b : ℕ) → T (cast s n (notar b)) → 5 * for s b ≤ 2 * total)
          → Decided ws k honest genesis cast kept pool armed s
      go (left x) =
          let all : (n : ℕ) → T (honest n) → T (cast s n (notar x.0) || cast s n (notar_fallback x.0)) = strong s x.0 lo hi init x.1 in
          backed x.0 all (three_held s x.0 lo hi all)
      go (right f) =
          let here : (n : ℕ) → T (honest n) → Init n s = init s lo (omega arith) in
          let sp = spread_all s lo hi here f in
          passed (λ n h. skips_all s lo hi here sp n h (here n h)) (four_held s lo hi here sp)

-- NO SLOT IS LEFT UNDECIDED.
pub slots_decided : (ws : List ℕ) (k : ℕ) (honest : Test) (genesis : ℕ → ℕ) (cast : ℕ → ℕ → Ballot → Bool) (kept : ℕ → ℕ → ℕ → ℕ → ℕ → Bool)
    (pool : ℕ → ℕ → ℕ → Ballot → Bool) (armed : ℕ → ℕ → Bool) → SlotsDecided ws k honest genesis cast kept pool armed
slots_decided ws k honest genesis cast kept pool armed u still =
    all_going ws k honest genesis cast kept pool armed (λ n h. (still.resting n h).arms) (λ n h. (still.resting n h).window) u still.last still.arrived.initial
    (decide ws k honest genesis cast kept pool armed u still)

pub next_armed : (ws : List ℕ) (k : ℕ) (honest : Test) (genesis : ℕ → ℕ) (cast : ℕ → ℕ → Ballot → Bool) (kept : ℕ → ℕ → ℕ → ℕ → ℕ → Bool)
    (pool : ℕ → ℕ → ℕ → Ballot → Bool) (armed : ℕ → ℕ → Bool) → NextArmed ws k honest genesis cast kept pool armed
next_armed ws k honest genesis cast kept pool armed u still last f =
    armed_behind ws k honest genesis cast kept pool armed (λ n h. (still.resting n h).arms) (λ n h. (still.resting n h).window) u still.last still.arrived.initial
    (decide ws k honest genesis cast kept pool armed u still) last
