-- Progress over many slots where some honest nodes have stopped: what the LIVE nodes cast, keep and have in their pools at the end. What the
-- others cast, honest or not, may stand in some live pools and not in others. Nothing here knows of ledgers, packets or clocks.
use Rattle.std.specs.Prelude.{◌≡◌, Bool, not, ◌&&◌, ◌||◌, List, ℕ, suc, ◌*◌, ◌≤◌, ◌<◌, T}
use Rattle.rulebook.specs.Weights.{last_slot, weight, total_to, is_first, d_weights}
use Rattle.safety.specs.Slot.{Ballot, notar, notar_fallback, skip, skip_fallback, final, Test, Lawful}
use Rattle.chain.specs.Chain.{Followed}
use Rattle.progress.specs.Rest.{is_final_vote, HeldFour, Backs, Initial, Opposed, Grounded, Going}

-- The table, the honest nodes, those of them that are live, each node's genesis, and what each node cast, keeps and has in its pool, and which
-- windows it has armed, as in `progress`.
module _ (stakes : List ℕ) (count : ℕ) (honest live : Test) (genesis : ℕ → ℕ) (cast : ℕ → ℕ → Ballot → Bool) (kept : ℕ → ℕ → ℕ → ℕ → ℕ → Bool)
    (pool : ℕ → ℕ → ℕ → Ballot → Bool) (armed : ℕ → ℕ → Bool) where
  -- The live stake that cast notar b in slot s; that did not; that cast skip; that cast one of the two.
  abbrev pub live_for : ℕ → ℕ → ℕ
  live_for s b = weight stakes count (λ n. live n && cast s n (notar b))

  abbrev pub live_against : ℕ → ℕ → ℕ
  live_against s b = weight stakes count (λ n. live n && not (cast s n (notar b)))

  abbrev pub live_skips : ℕ → ℕ
  live_skips s = weight stakes count (λ n. live n && cast s n skip)

  abbrev pub live_with_skips : ℕ → ℕ → ℕ
  live_with_skips s b = weight stakes count (λ n. live n && (cast s n skip || cast s n (notar b)))

  -- THE LIVE VOTES LEAN: block b of slot s is outvoted by over 40, or has over 40, or has 20 and with the skips 60.
  pub data Leans (s b : ℕ) : Type 0 where
    outvoted : 2 * total_to stakes count < 5 * live_against s b → Leans s b
    outright : 2 * total_to stakes count < 5 * live_for s b → Leans s b
    with_skips : total_to stakes count ≤ 5 * live_for s b → 3 * total_to stakes count ≤ 5 * live_with_skips s b → Leans s b

  -- No rule applies at node n: rules A, D with both its arms, and E.
  pub record Resting (n : ℕ) : Type 0 where
    pub arms : (s p x : ℕ) → 1 ≤ s → s ≤ last_slot → T (is_first s) → p < s → Backs stakes count live genesis cast kept pool armed n p x
        → ((t : ℕ) → p < t → t < s → HeldFour stakes count live genesis cast kept pool armed n t) → T (armed n s)
    pub falls_back : (s b : ℕ) → 1 ≤ s → s ≤ last_slot → Initial stakes count live genesis cast kept pool armed n s → ¬ T (cast s n (notar b)) → ¬ T (cast s n final)
        → T (d_weights (total_to stakes count) (weight stakes count (λ m. pool n s m (notar b))) (weight stakes count (λ m. pool n s m skip)))
        → (T (not (is_first s)) → Grounded stakes count live genesis cast kept pool armed n s b) → T (cast s n (notar_fallback b))
    pub skips_late : (s c : ℕ) → 1 ≤ s → s ≤ last_slot → T (cast s n (notar c)) → ¬ T (cast s n final)
        → ((b : ℕ) → Opposed stakes count live genesis cast kept pool armed n s b) → T (cast s n skip_fallback)
    pub window : (s : ℕ) → 1 ≤ s → suc s ≤ last_slot → T (not (is_first (suc s))) → T (armed n s) → T (armed n (suc s))

  -- WHAT HAS ARRIVED, in slots up to u: every vote that a live node cast (finals need not) in every live pool; an own initial vote in every
  -- slot of an armed window. And where every live node has its initial vote: outside first slots, a block that the live votes do not outvote
  -- at every live node; and the votes lean.
  pub record LiveMail (u : ℕ) : Type 0 where
    pub votes : (n m s : ℕ) (v : Ballot) → T (live n) → T (live m) → 1 ≤ s → s ≤ u → T (not (is_final_vote v)) → T (cast s m v) → T (pool n s m v)
    pub initial : (n s : ℕ) → T (live n) → 1 ≤ s → s ≤ u → T (armed n s) → Initial stakes count live genesis cast kept pool armed n s
    pub blocks : (n m s b p x : ℕ) → T (live n) → T (live m) → s ≤ u → ((j : ℕ) → T (live j) → Initial stakes count live genesis cast kept pool armed j s)
        → T (not (is_first s)) → T (cast s n (notar b)) → T (kept n s b p x) → 5 * live_against s b ≤ 2 * total_to stakes count → T (kept m s b p x)
    pub leans : (n s b : ℕ) → 1 ≤ s → s ≤ u → ((m : ℕ) → T (live m) → Initial stakes count live genesis cast kept pool armed m s)
        → T (live n) → T (cast s n (notar b)) → Leans s b

  -- THE PREMISE: live nodes are honest and weigh 60; what honest lives keep to; no rule applies at live nodes, and their mail is in.
  pub record Quiet (u : ℕ) : Type 0 where
    pub some : 1 ≤ total_to stakes count
    pub heavy : 3 * total_to stakes count ≤ 5 * weight stakes count live
    pub honest_too : (n : ℕ) → T (live n) → T (honest n)
    pub slots : (n : ℕ) → T (live n) → (s : ℕ) → Lawful stakes count honest (cast s) n
    pub follows : (n : ℕ) → T (live n) → (s b : ℕ) → T (not (is_first s)) → T (cast s n (notar b)) → Followed stakes count honest cast kept n s b
    pub alone : (n s b p x q y : ℕ) → T (live n) → T (kept n s b p x) → T (kept n s b q y) → (p ≡ q) × (x ≡ y)
    pub in_table : (n : ℕ) → T (live n) → n < count
    pub resting : (n : ℕ) → T (live n) → Resting n
    pub last : u ≤ last_slot
    pub mail : LiveMail u

  -- Every slot up to u is decided at every live node, and its window armed.
  abbrev pub LiveDecided : Type 0
  LiveDecided = (u : ℕ) → Quiet u → (s : ℕ) → 1 ≤ s → s ≤ u → Going stakes count live genesis cast kept pool armed s

  -- So is the next window.
  abbrev pub LiveNextArmed : Type 0
  LiveNextArmed = (u : ℕ) → Quiet u → suc u ≤ last_slot → T (is_first (suc u)) → (n : ℕ) → T (live n) → T (armed n (suc u))
