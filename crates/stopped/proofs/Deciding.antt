-- Why no slot is left undecided at the live nodes: the whole argument, over what they cast, keep and have in their pools. A block that the live
-- votes do not outvote has rule D's weights by these votes alone, and so has its parent in the slot before; where there is none, rule E's weights
-- are there by these votes alone. A final vote is in nobody's way: 60 for its block leave no room for 60, or for over 40, that speak for another.
use mathlib.Core.Path.{◌≡◌, subst}
use mathlib.Core.Bool.{Bool, true, false, not, ◌&&◌, ◌||◌}
use mathlib.Core.List.{List}
use Prim.Native.Nat.{ℕ, zero, suc, ◌+◌, ◌*◌, ◌≤◌, ◌<◌}
use native.Mathlib.Omega.{arith}
use native.Mathlib.Decide.{ℕ_discrete}
use lib.Dec.{T, leb, leb→le, nleb→lt, T_not, not_T}
use Rattle.rulebook.specs.Weights.{weight, total_to, reaches, is_first, d_weights}
use Rattle.safety.specs.Slot.{Ballot, notar, notar_fallback, skip, skip_fallback, final, Test, Heavy, Quorum, Lawful}
use Rattle.safety.proofs.Tests.{and_t, T_and, or_t, T-left, T-right, by_test}
use Rattle.safety.proofs.Weighing.{reaches_le, le_reaches, weights_more, weight_mono, weight_cover, weight_apart_lem, weight_find, weight_zero}
use Rattle.progress.specs.Rest.{HeldThree, HeldFour, Initial, voted, skips, Elsewhere, skipped, other, Opposed, Grounded, Decided, backed, passed}
use Rattle.progress.proofs.Ascending.{not_first_some, all_going, armed_behind}
use Rattle.stopped.specs.Leaning.{live_for, live_against, live_skips, live_with_skips, Leans, outvoted, outright, with_skips, Resting, Quiet, LiveDecided, LiveNextArmed}

split : (h c : Bool) → T h → T (h && not c || h && c)
split true true t = tt
split true false t = tt
split false c t = absurd t

parts : (h a b : Bool) → T (h && (a || b)) → T (h && a || h && b)
parts true a b t = t
parts false a b t = absurd t

-- One of two.
data Either (A B : Type 0) : Type 0 where
  left : A → Either A B
  right : B → Either A B

module _ (ws : List ℕ) (k : ℕ) (honest live : Test) (genesis : ℕ → ℕ) (cast : ℕ → ℕ → Ballot → Bool) (kept : ℕ → ℕ → ℕ → ℕ → ℕ → Bool)
    (pool : ℕ → ℕ → ℕ → Ballot → Bool) (armed : ℕ → ℕ → Bool) (u : ℕ) (quiet : Quiet ws k honest live genesis cast kept pool armed u) where
  abbrev Three : ℕ → ℕ → ℕ → Type 0
  Three n s b = HeldThree ws k live genesis cast kept pool armed n s b

  abbrev Four : ℕ → ℕ → Type 0
  Four n s = HeldFour ws k live genesis cast kept pool armed n s

  abbrev Init : ℕ → ℕ → Type 0
  Init n s = Initial ws k live genesis cast kept pool armed n s

  abbrev Grounds : ℕ → ℕ → ℕ → Type 0
  Grounds n s b = Grounded ws k live genesis cast kept pool armed n s b

  abbrev for : ℕ → ℕ → ℕ
  for s b = live_for ws k honest live genesis cast kept pool armed s b

  abbrev out : ℕ → ℕ → ℕ
  out s b = live_against ws k honest live genesis cast kept pool armed s b

  abbrev skipping : ℕ → ℕ
  skipping s = live_skips ws k honest live genesis cast kept pool armed s

  abbrev both : ℕ → ℕ → ℕ
  both s b = live_with_skips ws k honest live genesis cast kept pool armed s b

  abbrev Lean : ℕ → ℕ → Type 0
  Lean s b = Leans ws k honest live genesis cast kept pool armed s b

  abbrev total : ℕ
  total = total_to ws k

  abbrev law : (s n : ℕ) → T (live n) → Lawful ws k honest (cast s) n
  law s n h = quiet.slots n h s

  abbrev rest : (n : ℕ) → T (live n) → Resting ws k honest live genesis cast kept pool armed n
  rest n h = quiet.resting n h

  -- ---- weights

  pub some_live : (n : ℕ) × T (live n)
  some_live =
      let v = weight_find ws k live (λ n. false) (omega (arith, quiet.heavy, quiet.some, weight_zero ws k (λ n. false) (λ n l. tt))) in (v.0, v.1)

  -- A set with all live nodes reaches 60.
  all_reach : (p : Test) → ((n : ℕ) → T (live n) → T (p n)) → Heavy 3 ws k p
  all_reach p f = le_reaches 3 total (weight ws k p) (omega (arith, quiet.heavy, weight_mono ws k live p f))

  -- A block without a live vote is outvoted.
  alone_out : (s b : ℕ) → ((n : ℕ) → T (live n) → ¬ T (cast s n (notar b))) → 2 * total < 5 * out s b
  alone_out s b f =
      omega (
        arith,
        quiet.heavy,
        quiet.some,
        weight_mono ws k live (λ n. live n && not (cast s n (notar b))) (λ n h. T_and (live n) (not (cast s n (notar b))) h (not_T (cast s n (notar b)) (f n h))),
      )

  -- ---- a block that is not outvoted

  -- It has over 40, or 20 and with the skips 60.
  data Backing (s b : ℕ) : Type 0 where
    alone : 2 * total < 5 * for s b → Backing s b
    with_them : total ≤ 5 * for s b → 3 * total ≤ 5 * both s b → Backing s b

  backing : (s b : ℕ) → 5 * out s b ≤ 2 * total → Lean s b → Backing s b
  backing s b few (outvoted y) = absurd (omega arith)
  backing s b few (outright y) = alone y
  backing s b few (with_skips y z) = with_them y z

  -- So it has rule D's weights by live votes.
  d_weights_lem : (s b : ℕ) → Backing s b → T (d_weights total (for s b) (skipping s))
  d_weights_lem s b (alone y) =
      T-left (reaches 2 total (for s b)) (reaches 1 total (for s b) && reaches 3 total (skipping s + for s b)) (le_reaches 2 total (for s b) (omega arith))
  d_weights_lem s b (with_them y z) =
      T-right (reaches 2 total (for s b)) (reaches 1 total (for s b) && reaches 3 total (skipping s + for s b))
      (T_and (reaches 1 total (for s b)) (reaches 3 total (skipping s + for s b)) (le_reaches 1 total (for s b) (omega arith))
      (le_reaches 3 total (skipping s + for s b)
      (omega (
        arith,
        weight_cover ws k (λ n. live n && (cast s n skip || cast s n (notar b))) (λ n. live n && cast s n skip) (λ n. live n && cast s n (notar b))
            (λ n t. parts (live n) (cast s n skip) (cast s n (notar b)) t),
      ))))

  -- And some live node voted for it.
  voter : (s b : ℕ) → Backing s b → (n : ℕ) × T (live n) × T (cast s n (notar b))
  voter s b y =
      let v = weight_find ws k (λ n. live n && cast s n (notar b)) (λ n. false) (omega (arith, weight_zero ws k (λ n. false) (λ n l. tt), much y, quiet.some)) in
      let a = and_t (live v.0) (cast s v.0 (notar b)) v.1 in
      (v.0, a.0, a.1)
    where
      much : Backing s b → total ≤ 5 * for s b
      much (alone y) = omega arith
      much (with_them y z) = y

  -- ---- finals

  -- A live final is not for a block that is outvoted,
  final_in : (s n : ℕ) → T (live n) → T (cast s n final) → (c : ℕ) × T (cast s n (notar c)) × (5 * out s c ≤ 2 * total)
  final_in s n h t =
      let f = (law s n h).final_notar t in (
        f.0,
        f.1,
        omega (
          arith,
          reaches_le 3 total (weight ws k f.2.set) f.2.heavy,
          weight_apart_lem ws k f.2.set (λ m. live m && not (cast s m (notar f.0)))
              (λ m x z. let a = and_t (live m) (not (cast s m (notar f.0))) z in
              T_not (cast s m (notar f.0)) a.1 (f.2.all m (quiet.honest_too m a.0) x)),
        ),
      )

  -- and where a block is backed it is by a node that voted for it.
  final_for : (s b n : ℕ) → T (live n) → Backing s b → T (cast s n final) → T (cast s n (notar b))
  final_for s b n h y t =
      let f = (law s n h).final_notar t in
      elim (ℕ_discrete f.0 b) [
        | yes e ↦ subst (λ (c : ℕ). T (cast s n (notar c))) e f.1
        | no ne ↦ absurd (clash f.0 ne f.2 y)
      ]
    where
      clash : (c : ℕ) → ¬ (c ≡ b) → Quorum ws k honest (cast s) 3 (notar c) → Backing s b → ⊥
      clash c ne q (alone y) =
          omega (
            arith,
            reaches_le 3 total (weight ws k q.set) q.heavy,
            weight_apart_lem ws k q.set (λ m. live m && cast s m (notar b))
                (λ m x z. let a = and_t (live m) (cast s m (notar b)) z in
                ne ((law s m a.0).one_notar c b (q.all m (quiet.honest_too m a.0) x) a.1)),
          )
      clash c ne q (with_them y z) =
          omega (
            arith,
            quiet.some,
            reaches_le 3 total (weight ws k q.set) q.heavy,
            weight_apart_lem ws k q.set (λ m. live m && (cast s m skip || cast s m (notar b)))
                (λ m x w. let a = and_t (live m) (cast s m skip || cast s m (notar b)) w in
                let has : T (cast s m (notar c)) = q.all m (quiet.honest_too m a.0) x in
                or_t (cast s m skip) (cast s m (notar b)) a.1
                (λ v. (law s m a.0).notar_or_skip c has v)
                (λ v. ne ((law s m a.0).one_notar c b has v))),
          )

  -- ---- every live node stands behind a block that is not outvoted

  behind : (s b : ℕ) → 1 ≤ s → s ≤ u → ((n : ℕ) → T (live n) → Init n s) → Backing s b → (T (not (is_first s)) → (n : ℕ) → T (live n) → Grounds n s b)
      → (n : ℕ) → T (live n) → T (cast s n (notar b) || cast s n (notar_fallback b))
  behind s b lo hi init y ground n h =
      by_test (cast s n (notar b)) (λ t. T-left (cast s n (notar b)) (cast s n (notar_fallback b)) t)
      (λ t. T-right (cast s n (notar b)) (cast s n (notar_fallback b))
      ((rest n h).falls_back s b lo (omega (arith, quiet.last)) (init n h) (T_not (cast s n (notar b)) t)
      (λ f. T_not (cast s n (notar b)) t (final_for s b n h y f))
      (weights_more total (for s b) (skipping s) (weight ws k (λ m. pool n s m (notar b))) (weight ws k (λ m. pool n s m skip))
      (weight_mono ws k (λ m. live m && cast s m (notar b)) (λ m. pool n s m (notar b))
      (λ m z. let a = and_t (live m) (cast s m (notar b)) z in quiet.mail.votes n m s (notar b) h a.0 lo hi tt a.1))
      (weight_mono ws k (λ m. live m && cast s m skip) (λ m. pool n s m skip)
      (λ m z. let a = and_t (live m) (cast s m skip) z in quiet.mail.votes n m s skip h a.0 lo hi tt a.1))
      (d_weights_lem s b y))
      (λ f. ground f n h)))

  three_held : (s b : ℕ) → 1 ≤ s → s ≤ u → ((n : ℕ) → T (live n) → T (cast s n (notar b) || cast s n (notar_fallback b))) → (n : ℕ) → T (live n) → Three n s b
  three_held s b lo hi all n h =
      all_reach (λ m. pool n s m (notar b) || pool n s m (notar_fallback b))
      (λ m g. or_t (cast s m (notar b)) (cast s m (notar_fallback b)) (all m g)
      (λ t. T-left (pool n s m (notar b)) (pool n s m (notar_fallback b)) (quiet.mail.votes n m s (notar b) h g lo hi tt t))
      (λ t. T-right (pool n s m (notar b)) (pool n s m (notar_fallback b)) (quiet.mail.votes n m s (notar_fallback b) h g lo hi tt t)))

  -- The parent of such a block, outside first slots: one for all its live voters, and outvoted by no more.
  record Parent (s b : ℕ) : Type 0 where
    pub parent : ℕ
    pub node : ℕ
    pub is_live : T (live node)
    pub votes : T (cast (suc s) node (notar b))
    pub keeps : T (kept node (suc s) b s parent)
    pub voted_it : T (cast s node (notar parent))
    pub fewer : out s parent ≤ out (suc s) b

  against : (h c d : Bool) → (T h → T d → T c) → T (h && not c) → T (h && not d)
  against true true d f t = absurd t
  against true false true f t = absurd (f tt tt)
  against true false false f t = tt
  against false c d f t = absurd t

  parent_of : (s b : ℕ) → suc s ≤ u → ((n : ℕ) → T (live n) → Init n (suc s)) → T (not (is_first (suc s))) → 5 * out (suc s) b ≤ 2 * total
      → Backing (suc s) b → Parent s b
  parent_of s b hi init nf few y =
      let v = voter (suc s) b y in
      let f = quiet.follows v.0 v.1 (suc s) b nf v.2 in
      record {
        parent = f.parent;
        node = v.0;
        is_live = v.1;
        votes = v.2;
        keeps = subst (λ (j : ℕ). T (kept v.0 (suc s) b j f.parent)) (omega (arith, f.before)) f.keeps;
        voted_it = subst (λ (j : ℕ). T (cast j v.0 (notar f.parent))) (omega (arith, f.before)) f.voted;
        fewer = weight_mono ws k (λ n. live n && not (cast s n (notar f.parent))) (λ n. live n && not (cast (suc s) n (notar b)))
            (λ n. against (live n) (cast s n (notar f.parent)) (cast (suc s) n (notar b))
            (λ h c. let g = quiet.follows n h (suc s) b nf c in
            let o = quiet.alone v.0 (suc s) b g.slot g.parent f.slot f.parent v.1
            (quiet.mail.blocks n v.0 (suc s) b g.slot g.parent h v.1 hi init nf c g.keeps few) f.keeps in
            subst (λ (x : ℕ). T (cast s n (notar x))) o.1
            (subst (λ (j : ℕ). T (cast j n (notar g.parent))) (omega (arith, g.before)) g.voted)));
      }

  -- So every live node stands behind it, by way of its parents down to the window's first slot.
  strong : (s b : ℕ) → 1 ≤ s → s ≤ u → ((t : ℕ) → 1 ≤ t → t ≤ s → (n : ℕ) → T (live n) → Init n t)
      → (v : ℕ) → T (live v) → T (cast s v (notar b)) → 5 * out s b ≤ 2 * total
      → (n : ℕ) → T (live n) → T (cast s n (notar b) || cast s n (notar_fallback b))
  strong zero b lo hi init v lv cv few n h = absurd (omega arith)
  strong (suc s) b lo hi init v lv cv few n h =
      let y : Backing (suc s) b = backing (suc s) b few (quiet.mail.leans v (suc s) b lo hi (init (suc s) lo (omega arith)) lv cv) in
      behind (suc s) b lo hi (init (suc s) lo (omega arith)) y
      (λ nf m g. let here : (n : ℕ) → T (live n) → Init n (suc s) = init (suc s) lo (omega arith) in
      let p = parent_of s b hi here nf few y in
      let one = not_first_some s nf in
      record {
        slot = s;
        parent = p.parent;
        keeps = quiet.mail.blocks p.node m (suc s) b s p.parent p.is_live g hi here nf p.votes p.keeps few;
        some = one;
        lower = omega arith;
        held = three_held s p.parent one (omega arith)
            (strong s p.parent one (omega arith) (λ t x z. init t x (omega arith)) p.node p.is_live p.voted_it (omega (arith, p.fewer))) m g;
      })
      n h

  -- ---- every block is outvoted

  module _ (s : ℕ) (lo : 1 ≤ s) (hi : s ≤ u) (init : (n : ℕ) → T (live n) → Init n s) where
    -- One that is not is found by looking, or there is none.
    abbrev Standing : Type 0
    Standing = (b : ℕ) × (v : ℕ) × T (live v) × T (cast s v (notar b)) × (5 * out s b ≤ 2 * total)

    abbrev FallenTo : ℕ → Type 0
    FallenTo j = (n : ℕ) → n < j → T (live n) → (b : ℕ) → T (cast s n (notar b)) → 2 * total < 5 * out s b

    look : (j : ℕ) → Either Standing (FallenTo j)
    look zero = right (λ n l h b t. absurd (omega arith))
    look (suc j) = go (look j)
      where
        before : FallenTo j → (T (live j) → (b : ℕ) → T (cast s j (notar b)) → 2 * total < 5 * out s b) → FallenTo (suc j)
        before f g n l h b t =
            elim (ℕ_discrete n j) [
              | yes e ↦ g (subst (λ (m : ℕ). T (live m)) e h) b (subst (λ (m : ℕ). T (cast s m (notar b))) e t)
              | no ne ↦ f n (omega arith) h b t
            ]

        here : FallenTo j → (h : T (live j)) → Init j s → Either Standing (FallenTo (suc j))
        here f h (skips t) = right (before f (λ g b x. absurd ((law s j h).notar_or_skip b x t)))
        here f h (voted c t) =
            by_test (leb (5 * out s c) (2 * total))
            (λ x. left (c, j, h, t, leb→le (5 * out s c) (2 * total) x))
            (λ x. right (before f (λ g b z. subst (λ (d : ℕ). 2 * total < 5 * out s d) ((law s j h).one_notar c b t z) (nleb→lt (5 * out s c) (2 * total) x))))

        go : Either Standing (FallenTo j) → Either Standing (FallenTo (suc j))
        go (left x) = left x
        go (right f) = by_test (live j) (λ h. here f h (init j h)) (λ nh. right (before f (λ g. absurd (T_not (live j) nh g))))

    abbrev Spread : Type 0
    Spread = (b : ℕ) → 2 * total < 5 * out s b

    spread_all : FallenTo k → Spread
    spread_all f b =
        by_test (leb (5 * out s b) (2 * total))
        (λ x. alone_out s b (λ n h t. let z = f n (quiet.in_table n h) h b t in let w = leb→le (5 * out s b) (2 * total) x in omega arith))
        (λ x. nleb→lt (5 * out s b) (2 * total) x)

    -- Then no live final stands.
    no_final_lem : Spread → (n : ℕ) → T (live n) → ¬ T (cast s n final)
    no_final_lem sp n h t = let f = final_in s n h t in omega (arith, f.2, sp f.0)

    -- And for every block 40 of initial votes, in any live pool, are not for it.
    opposed : Spread → (n : ℕ) → T (live n) → (b : ℕ) → Opposed ws k live genesis cast kept pool armed n s b
    opposed sp n h b =
        record {
          set = λ m. live m && not (cast s m (notar b));
          all = λ m t. let a = and_t (live m) (not (cast s m (notar b))) t in elsewhere m a.0 a.1 (init m a.0);
          heavy = le_reaches 2 total (out s b) (omega (arith, sp b));
        }
      where
        elsewhere : (m : ℕ) → T (live m) → T (not (cast s m (notar b))) → Init m s → Elsewhere ws k live genesis cast kept pool armed n s m b
        elsewhere m g nb (skips t) = skipped (quiet.mail.votes n m s skip h g lo hi tt t)
        elsewhere m g nb (voted c t) =
            other c (λ e. T_not (cast s m (notar b)) nb (subst (λ (d : ℕ). T (cast s m (notar d))) e t)) (quiet.mail.votes n m s (notar c) h g lo hi tt t)

    -- So every live node skips or has fallen back to skip.
    skips_all : Spread → (n : ℕ) → T (live n) → Init n s → T (cast s n skip || cast s n skip_fallback)
    skips_all sp n h (skips t) = T-left (cast s n skip) (cast s n skip_fallback) t
    skips_all sp n h (voted c t) =
        T-right (cast s n skip) (cast s n skip_fallback)
        ((rest n h).skips_late s c lo (omega (arith, quiet.last)) t (no_final_lem sp n h) (opposed sp n h))

    four_held : Spread → (n : ℕ) → T (live n) → Four n s
    four_held sp n h =
        all_reach (λ m. pool n s m skip || pool n s m skip_fallback)
        (λ m g. or_t (cast s m skip) (cast s m skip_fallback) (skips_all sp m g (init m g))
        (λ t. T-left (pool n s m skip) (pool n s m skip_fallback) (quiet.mail.votes n m s skip h g lo hi tt t))
        (λ t. T-right (pool n s m skip) (pool n s m skip_fallback) (quiet.mail.votes n m s skip_fallback h g lo hi tt t)))

  -- ---- a slot, once all up to it are armed

  decide : (s : ℕ) → 1 ≤ s → s ≤ u → ((t : ℕ) → 1 ≤ t → t ≤ s → (n : ℕ) → T (live n) → Init n t) → Decided ws k live genesis cast kept pool armed s
  decide s lo hi init = go (look s lo hi (init s lo (omega arith)) k)
    where
      go : Either ((b : ℕ) × (v : ℕ) × T (live v) × T (cast s v (notar b)) × (5 * out s b ≤ 2 * total))
          ((n : ℕ) → n < k → T (live n) → (b : ℕ) → T (cast s n (notar b)) → 2 * total < 5 * out s b)
          → Decided ws k live genesis cast kept pool armed s
      go (left x) =
          let all : (n : ℕ) → T (live n) → T (cast s n (notar x.0) || cast s n (notar_fallback x.0)) = strong s x.0 lo hi init x.1 x.2 x.3 x.4 in
          backed x.0 all (three_held s x.0 lo hi all)
      go (right f) =
          let here : (n : ℕ) → T (live n) → Init n s = init s lo (omega arith) in
          let sp = spread_all s lo hi here f in
          passed (λ n h. skips_all s lo hi here sp n h (here n h)) (four_held s lo hi here sp)

-- NO SLOT IS LEFT UNDECIDED at the live nodes.
pub live_decided : (ws : List ℕ) (k : ℕ) (honest live : Test) (genesis : ℕ → ℕ) (cast : ℕ → ℕ → Ballot → Bool) (kept : ℕ → ℕ → ℕ → ℕ → ℕ → Bool)
    (pool : ℕ → ℕ → ℕ → Ballot → Bool) (armed : ℕ → ℕ → Bool) → LiveDecided ws k honest live genesis cast kept pool armed
live_decided ws k honest live genesis cast kept pool armed u quiet =
    all_going ws k live genesis cast kept pool armed (λ n h. (quiet.resting n h).arms) (λ n h. (quiet.resting n h).window) u quiet.last quiet.mail.initial
    (decide ws k honest live genesis cast kept pool armed u quiet)

pub live_next_armed : (ws : List ℕ) (k : ℕ) (honest live : Test) (genesis : ℕ → ℕ) (cast : ℕ → ℕ → Ballot → Bool) (kept : ℕ → ℕ → ℕ → ℕ → ℕ → Bool)
    (pool : ℕ → ℕ → ℕ → Ballot → Bool) (armed : ℕ → ℕ → Bool) → LiveNextArmed ws k honest live genesis cast kept pool armed
live_next_armed ws k honest live genesis cast kept pool armed u quiet last f =
    armed_behind ws k live genesis cast kept pool armed (λ n h. (quiet.resting n h).arms) (λ n h. (quiet.resting n h).window) u quiet.last quiet.mail.initial
    (decide ws k honest live genesis cast kept pool armed u quiet) last
