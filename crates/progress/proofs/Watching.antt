-- A watcher with the votes of nodes that weigh 60 holds what all of them stand behind: one block, or the skip.
use mathlib.Core.Path.{refl, sym, subst}
use mathlib.Core.Bool.{Bool, not, ◌||◌}
use mathlib.Core.List.{List}
use mathlib.Core.Logic.{inl}
use Prim.Native.Nat.{ℕ, zero, suc, ◌*◌, ◌≤◌, ◌<◌}
use native.Mathlib.Omega.{arith}
use native.Mathlib.Decide.{ℕ_discrete}
use lib.Dec.{T}
use lib.ListN.{length, get_or}
use Rattle.rulebook.specs.Weights.{last_slot, weight, total_to, is_first}
use Rattle.rulebook.specs.Ledger.{Ledger, none, fresh, cell_at, is_armed}
use Rattle.rulebook.specs.Taking.{Arrival}
use Rattle.settling.proofs.Start.{watching_sound}
use Rattle.safety.specs.Slot.{Test, Ballot, notar, notar_fallback, skip, skip_fallback}
use Rattle.safety.specs.Ballots.{has}
use Rattle.safety.specs.Ring.{life, cast_by, Ring}
use Rattle.safety.specs.Watchers.{watched}
use Rattle.safety.proofs.Tests.{or_t, T-left, T-right, by_test}
use Rattle.safety.proofs.Weighing.{le_reaches, weight_mono}
use Rattle.safety.proofs.Lives.{life_ready, life_table, fresh_ready, watch_sized}
use Rattle.safety.proofs.Safety.{counted}
use Rattle.chain.specs.OneChain.{kept_by}
use Rattle.progress.specs.Rest.{Decided, backed, passed}
use Rattle.progress.specs.Progress.{AtRest, MailIn}
use Rattle.progress.specs.Watching.{WatcherMail, DecidedEverywhere, notarized, skipped_over, WatcherWokenArmed, WatchersDecide, WatchersArm}
use Rattle.progress.proofs.Ascending.{not_first_some}
use Rattle.progress.proofs.Going.{honest_heavy, slots_decided}
use Rattle.progress.proofs.Resting as ledger
use Rattle.progress.proofs.Ends.{life_rests, begun_armed}
use Rattle.progress.proofs.NeverHangs.{as_ledger, same_window, casts, pools, arm, reach, still, is_block_lem}

-- ---- beside any nodes that weigh 60

module _ (stakes : List ℕ) (genesis : ℕ → ℕ) (voters : Test) (fed : ℕ → List Arrival) where
  -- All of them cast a vote that counts for one block of slot s, or one that counts for the skip.
  pub data Stand (s : ℕ) : Type 0 where
    behind : (b : ℕ) → ((m : ℕ) → T (voters m) → T (cast_by stakes genesis voters fed m s (notar b) || cast_by stakes genesis voters fed m s (notar_fallback b))) → Stand s
    over : ((m : ℕ) → T (voters m) → T (cast_by stakes genesis voters fed m s skip || cast_by stakes genesis voters fed m s skip_fallback)) → Stand s

  module _ (heavy : 3 * total_to stakes (length stakes) ≤ 5 * weight stakes (length stakes) voters) (u g : ℕ) (lived : List Arrival)
      (w : WatcherMail stakes genesis voters fed u g lived) where
    abbrev seen : Ledger
    seen = watched stakes g lived

    positive : 1 ≤ seen.total
    positive =
        (life_ready (length stakes) (fresh stakes (length stakes) g) lived (fresh_ready stakes (length stakes) g (watch_sized stakes g w.started))).inv.some

    rest : AtRest seen
    rest = life_rests (fresh stakes (length stakes) g) lived (watching_sound stakes g w.started) (inl w.woken)

    -- What every one of them cast reaches 60 there.
    all_there : (p : Test) → ((m : ℕ) → T (voters m) → T (p m)) → ledger.Reach seen 3 p
    all_there p f =
        as_ledger 3 stakes (length stakes) g seen p
        (life_table (length stakes) (fresh stakes (length stakes) g) lived (fresh_ready stakes (length stakes) g (watch_sized stakes g w.started)))
        (le_reaches 3 (total_to stakes (length stakes)) (weight stakes (length stakes) p) (omega (arith, heavy, weight_mono stakes (length stakes) voters p f)))

    pub three_there : (s b : ℕ) → 1 ≤ s → s ≤ u
        → ((m : ℕ) → T (voters m) → T (cast_by stakes genesis voters fed m s (notar b) || cast_by stakes genesis voters fed m s (notar_fallback b)))
        → ledger.Reach seen 3 (ledger.three seen s b)
    three_there s b lo hi all =
        all_there (ledger.three seen s b)
        (λ m h. or_t (cast_by stakes genesis voters fed m s (notar b)) (cast_by stakes genesis voters fed m s (notar_fallback b)) (all m h)
        (λ t. T-left (has (cell_at seen s m) (notar b)) (has (cell_at seen s m) (notar_fallback b)) (w.votes m s (notar b) h lo hi tt t))
        (λ t. T-right (has (cell_at seen s m) (notar b)) (has (cell_at seen s m) (notar_fallback b)) (w.votes m s (notar_fallback b) h lo hi tt t)))

    pub four_there : (s : ℕ) → 1 ≤ s → s ≤ u
        → ((m : ℕ) → T (voters m) → T (cast_by stakes genesis voters fed m s skip || cast_by stakes genesis voters fed m s skip_fallback))
        → ledger.Reach seen 3 (ledger.four seen s)
    four_there s lo hi all =
        all_there (ledger.four seen s)
        (λ m h. or_t (cast_by stakes genesis voters fed m s skip) (cast_by stakes genesis voters fed m s skip_fallback) (all m h)
        (λ t. T-left (has (cell_at seen s m) skip) (has (cell_at seen s m) skip_fallback) (w.votes m s skip h lo hi tt t))
        (λ t. T-right (has (cell_at seen s m) skip) (has (cell_at seen s m) skip_fallback) (w.votes m s skip_fallback h lo hi tt t)))

    -- ---- arming

    module _ (stand : (s : ℕ) → 1 ≤ s → s ≤ u → Stand s) where
      -- A first slot above decided slots: looking down from it, a parent is ready.
      arms_down : (s : ℕ) → 1 ≤ s → s ≤ suc u → s ≤ last_slot → T (is_first s) → (j : ℕ) → j < s
          → ((t : ℕ) → j < t → t < s → ledger.Reach seen 3 (ledger.four seen t)) → T (is_armed seen s)
      arms_down s lo hi top f zero l between = ledger.arms seen positive rest s 0 seen.genesis lo top f l refl between
      arms_down s lo hi top f (suc j) l between = go (stand (suc j) (omega arith) (omega arith)) (arms_down s lo hi top f j (omega arith))
        where
          go : Stand (suc j) → (((t : ℕ) → j < t → t < s → ledger.Reach seen 3 (ledger.four seen t)) → T (is_armed seen s)) → T (is_armed seen s)
          go (behind b all) below = ledger.arms seen positive rest s (suc j) b lo top f l (three_there (suc j) b (omega arith) (omega arith) all) between
          go (over all) below =
              below (λ t x y. elim (ℕ_discrete t (suc j)) [
                | yes e ↦ subst (λ (i : ℕ). ledger.Reach seen 3 (ledger.four seen i)) (sym e) (four_there (suc j) (omega arith) (omega arith) all)
                | no ne ↦ between t (omega arith) y
              ])

      pub armed_up : (s : ℕ) → 1 ≤ s → s ≤ suc u → s ≤ last_slot → T (is_armed seen s)
      armed_up zero lo hi top = absurd (omega arith)
      armed_up (suc s) lo hi top =
          by_test (is_first (suc s))
          (λ f. arms_down (suc s) lo hi top f s (omega arith) (λ t x y. absurd (omega arith)))
          (λ nf. let one = not_first_some s nf in
          subst (λ (v : ℕ). T (not (none (get_or seen.armed v 0)))) (sym (same_window s one top nf)) (armed_up s one (omega arith) (omega arith)))

-- ---- beside the honest nodes

module _ (stakes : List ℕ) (genesis : ℕ → ℕ) (honest : Test) (fed : ℕ → List Arrival) (ring : Ring stakes genesis honest fed)
    (u : ℕ) (last : u ≤ last_slot) (mail : MailIn stakes genesis honest fed u) where
  abbrev cast : ℕ → ℕ → Ballot → Bool
  cast = casts stakes genesis honest fed ring

  abbrev Settles : ℕ → Type 0
  Settles s = Decided stakes (length stakes) honest genesis cast (kept_by stakes genesis honest fed) (pools stakes genesis honest fed ring) (arm stakes genesis honest fed ring) s

  settles : (s : ℕ) → 1 ≤ s → s ≤ u → Settles s
  settles s lo hi =
      (slots_decided stakes (length stakes) honest genesis cast (kept_by stakes genesis honest fed)
      (pools stakes genesis honest fed ring) (arm stakes genesis honest fed ring) u (still stakes genesis honest fed ring u last mail) s lo hi).decided

  enough : 3 * total_to stakes (length stakes) ≤ 5 * weight stakes (length stakes) honest
  enough =
      omega (
        arith,
        honest_heavy stakes (length stakes) honest genesis cast (kept_by stakes genesis honest fed)
            (pools stakes genesis honest fed ring) (arm stakes genesis honest fed ring) u (still stakes genesis honest fed ring u last mail),
      )

  -- A vote of the one kind or the other in a node's own cell is one that it cast.
  either_cast : (m s : ℕ) (v w : Ballot) → T (honest m) → T (cast s m v || cast s m w) → T (cast_by stakes genesis honest fed m s v || cast_by stakes genesis honest fed m s w)
  either_cast m s v w h t =
      or_t (cast s m v) (cast s m w) t
      (λ x. T-left (cast_by stakes genesis honest fed m s v) (cast_by stakes genesis honest fed m s w) (counted stakes genesis honest fed ring m m s v h h x))
      (λ x. T-right (cast_by stakes genesis honest fed m s v) (cast_by stakes genesis honest fed m s w) (counted stakes genesis honest fed ring m m s w h h x))

  stands : (s : ℕ) → Settles s → Stand stakes genesis honest fed s
  stands s (backed b all held) = behind b (λ m h. either_cast m s (notar b) (notar_fallback b) h (all m h))
  stands s (passed all held) = over (λ m h. either_cast m s skip skip_fallback h (all m h))

pub watcher_woken_armed : WatcherWokenArmed
watcher_woken_armed stakes g e lived = begun_armed stakes (length stakes) g (watch_sized stakes g e) (watching_sound stakes g e) lived

pub watchers_decide : WatchersDecide
watchers_decide stakes genesis honest fed ring u last mail s lo hi = go (settles stakes genesis honest fed ring u last mail s lo hi)
  where
    heavy : 3 * total_to stakes (length stakes) ≤ 5 * weight stakes (length stakes) honest
    heavy = enough stakes genesis honest fed ring u last mail

    go : Settles stakes genesis honest fed ring u last mail s → DecidedEverywhere stakes genesis honest fed u s
    go (backed b all f) =
        notarized b (is_block_lem stakes genesis honest fed ring u last mail s b all)
        (λ n h. ledger.three_held (life stakes genesis honest fed n) s b (reach stakes genesis honest fed ring honest n h 3 (ledger.three (life stakes genesis honest fed n) s b) (f n h)))
        (λ g lived w. ledger.three_held (watched stakes g lived) s b (three_there stakes genesis honest fed heavy u g lived w s b lo hi
        (λ m h. either_cast stakes genesis honest fed ring u last mail m s (notar b) (notar_fallback b) h (all m h))))
    go (passed all f) =
        skipped_over
        (λ n h. ledger.four_held (life stakes genesis honest fed n) s (reach stakes genesis honest fed ring honest n h 3 (ledger.four (life stakes genesis honest fed n) s) (f n h)))
        (λ g lived w. ledger.four_held (watched stakes g lived) s (four_there stakes genesis honest fed heavy u g lived w s lo hi
        (λ m h. either_cast stakes genesis honest fed ring u last mail m s skip skip_fallback h (all m h))))

pub watchers_arm : WatchersArm
watchers_arm stakes genesis honest fed ring u last mail g lived w s lo hi top =
    armed_up stakes genesis honest fed (enough stakes genesis honest fed ring u last mail) u g lived w
    (λ t x y. stands stakes genesis honest fed ring u last mail t (settles stakes genesis honest fed ring u last mail t x y)) s lo hi top
