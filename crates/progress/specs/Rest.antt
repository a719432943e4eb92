-- Progress over many slots: what honest nodes cast, keep and have in their pools at the end, and what it is that no rule applies. Nothing
-- here knows of ledgers, packets or clocks.
use Rattle.std.specs.Prelude.{◌≡◌, Bool, true, false, not, ◌&&◌, ◌||◌, List, ℕ, zero, suc, ◌*◌, ◌≤◌, ◌<◌, T}
use Rattle.rulebook.specs.Weights.{last_slot, weight, total_to, reaches, is_first}
use Rattle.safety.specs.Slot.{Ballot, notar, notar_fallback, skip, skip_fallback, final, Test, Heavy, Lawful}
use Rattle.chain.specs.Chain.{Followed}

-- A final vote decides nothing here.
abbrev pub is_final_vote : Ballot → Bool
is_final_vote (notar b) = false
is_final_vote (notar_fallback b) = false
is_final_vote skip = false
is_final_vote skip_fallback = false
is_final_vote final = true

-- The table, the honest nodes, each node's genesis, what each node cast (slot, node, ballot) and keeps (node, slot, number, parent's slot,
-- parent), as for one chain; and what stands in each node's pool (whose pool, slot, whose vote, ballot), and which slots' windows it has armed.
module _ (stakes : List ℕ) (count : ℕ) (honest : Test) (genesis : ℕ → ℕ) (cast : ℕ → ℕ → Ballot → Bool) (kept : ℕ → ℕ → ℕ → ℕ → ℕ → Bool)
    (pool : ℕ → ℕ → ℕ → Ballot → Bool) (armed : ℕ → ℕ → Bool) where
  -- Kind 3 for block b, and kind 4, held in slot s by the votes in node n's pool.
  abbrev pub HeldThree : ℕ → ℕ → ℕ → Type 0
  HeldThree n s b = Heavy 3 stakes count (λ m. pool n s m (notar b) || pool n s m (notar_fallback b))

  abbrev pub HeldFour : ℕ → ℕ → Type 0
  HeldFour n s = Heavy 3 stakes count (λ m. pool n s m skip || pool n s m skip_fallback)

  -- A parent to build on, but for the slots between.
  abbrev pub Backs : ℕ → ℕ → ℕ → Type 0
  Backs n zero x = x ≡ genesis n
  Backs n (suc p) x = HeldThree n (suc p) x

  -- An own initial vote.
  pub data Initial (n s : ℕ) : Type 0 where
    voted : (c : ℕ) → T (cast s n (notar c)) → Initial n s
    skips : T (cast s n skip) → Initial n s

  -- A vote in node n's pool that is an initial vote and not for b.
  pub data Elsewhere (n s m b : ℕ) : Type 0 where
    skipped : T (pool n s m skip) → Elsewhere n s m b
    other : (c : ℕ) → ¬ (c ≡ b) → T (pool n s m (notar c)) → Elsewhere n s m b

  -- In node n's pool initial votes that are not for b reach 40.
  pub record Opposed (n s b : ℕ) : Type 0 where
    pub set : Test
    pub all : (m : ℕ) → T (set m) → Elsewhere n s m b
    pub heavy : Heavy 2 stakes count set

  -- Rule D outside first slots: the block is kept, its parent in a lower slot, and kind 3 is held for that parent.
  pub record Grounded (n s b : ℕ) : Type 0 where
    pub slot : ℕ
    pub parent : ℕ
    pub keeps : T (kept n s b slot parent)
    pub some : 1 ≤ slot
    pub lower : slot < s
    pub held : HeldThree n slot parent

  -- NO RULE APPLIES at node n: what that says of rules A, D and E. D's second arm, and rules B, C, F and the walk, are not used.
  pub record Resting (n : ℕ) : Type 0 where
    pub arms : (s p x : ℕ) → 1 ≤ s → s ≤ last_slot → T (is_first s) → p < s → Backs n p x → ((t : ℕ) → p < t → t < s → HeldFour n t) → T (armed n s)
    pub falls_back : (s b : ℕ) → 1 ≤ s → s ≤ last_slot → Initial n s → ¬ T (cast s n (notar b)) → ¬ T (cast s n final)
        → Heavy 2 stakes count (λ m. pool n s m (notar b)) → (T (not (is_first s)) → Grounded n s b) → T (cast s n (notar_fallback b))
    pub skips_late : (s c : ℕ) → 1 ≤ s → s ≤ last_slot → T (cast s n (notar c)) → ¬ T (cast s n final)
        → ((b : ℕ) → Opposed n s b) → T (cast s n skip_fallback)
    pub window : (s : ℕ) → 1 ≤ s → suc s ≤ last_slot → T (not (is_first (suc s))) → T (armed n s) → T (armed n (suc s))

  -- The honest initial votes for block b of slot s.
  abbrev pub honest_for : ℕ → ℕ → ℕ
  honest_for s b = weight stakes count (λ n. honest n && cast s n (notar b))

  -- WHAT HAS ARRIVED, in slots up to u: every vote that an honest node cast (finals need not) in every honest pool; an own initial vote in
  -- every slot of an armed window; and, outside first slots, a block for which honest initial votes reach 40 at every honest node.
  pub record Arrived (u : ℕ) : Type 0 where
    pub votes : (n m s : ℕ) (v : Ballot) → T (honest n) → T (honest m) → 1 ≤ s → s ≤ u → T (not (is_final_vote v)) → T (cast s m v) → T (pool n s m v)
    pub initial : (n s : ℕ) → T (honest n) → 1 ≤ s → s ≤ u → T (armed n s) → Initial n s
    pub blocks : (n m s b p x : ℕ) → T (honest n) → T (honest m) → s ≤ u → T (not (is_first s)) → T (cast s n (notar b)) → T (kept n s b p x)
        → T (reaches 2 (total_to stakes count) (honest_for s b)) → T (kept m s b p x)

  -- A slot is decided: every honest node stands behind one block, or every one skips, early or late; and so kind 3 for that block, or kind 4, is
  -- held at every honest node.
  pub data Decided (s : ℕ) : Type 0 where
    backed : (b : ℕ) → ((n : ℕ) → T (honest n) → T (cast s n (notar b) || cast s n (notar_fallback b))) → ((n : ℕ) → T (honest n) → HeldThree n s b) → Decided s
    passed : ((n : ℕ) → T (honest n) → T (cast s n skip || cast s n skip_fallback)) → ((n : ℕ) → T (honest n) → HeldFour n s) → Decided s

  pub record Going (s : ℕ) : Type 0 where
    pub arming : (n : ℕ) → T (honest n) → T (armed n s)
    pub decided : Decided s

  -- ---- the promises

  -- THE PREMISE: one slot's, in every slot; outside first slots a notar vote follows one for the parent; a node keeps a number with one
  -- parent; no rule applies, and the mail is in.
  pub record Still (u : ℕ) : Type 0 where
    pub few : 5 * weight stakes count (λ n. not (honest n)) < total_to stakes count
    pub slots : (n : ℕ) → T (honest n) → (s : ℕ) → Lawful stakes count honest (cast s) n
    pub follows : (n : ℕ) → T (honest n) → (s b : ℕ) → T (not (is_first s)) → T (cast s n (notar b)) → Followed stakes count honest cast kept n s b
    pub alone : (n s b p x q y : ℕ) → T (honest n) → T (kept n s b p x) → T (kept n s b q y) → (p ≡ q) × (x ≡ y)
    pub in_table : (n : ℕ) → T (honest n) → n < count
    pub resting : (n : ℕ) → T (honest n) → Resting n
    pub last : u ≤ last_slot
    pub arrived : Arrived u

  -- Every slot up to u is decided, and its window armed.
  abbrev pub SlotsDecided : Type 0
  SlotsDecided = (u : ℕ) → Still u → (s : ℕ) → 1 ≤ s → s ≤ u → Going s

  -- So is the next window.
  abbrev pub NextArmed : Type 0
  NextArmed = (u : ℕ) → Still u → suc u ≤ last_slot → T (is_first (suc u)) → (n : ℕ) → T (honest n) → T (armed n (suc u))
