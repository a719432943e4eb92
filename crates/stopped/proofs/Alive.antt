-- The written rules meet the interface of progress at the live nodes, and so these never hang.
use mathlib.Core.Bool.{Bool, not, ◌&&◌, ◌||◌}
use mathlib.Core.List.{List}
use Prim.Native.Nat.{ℕ, ◌≤◌}
use native.Mathlib.Omega.{arith}
use lib.Dec.{T, T_not, not_T}
use lib.ListN.{length}
use Rattle.rulebook.specs.Weights.{last_slot, weight, total_to, reaches, d_weights}
use Rattle.rulebook.specs.Ledger.{Ledger, none, fresh, cell_at, own_cell, no_initial, is_armed}
use Rattle.rulebook.specs.Taking.{Arrival}
use Rattle.safety.specs.Slot.{Test, Ballot, notar, notar_fallback, skip, skip_fallback, Heavy}
use Rattle.safety.specs.Ballots.{has}
use Rattle.safety.specs.Moves.{SameTable}
use Rattle.safety.specs.Ring.{life, cast_by, Ring}
use Rattle.safety.specs.Watchers.{watched}
use Rattle.safety.proofs.Tests.{and_t, T_and, or_t, T-left, T-right}
use Rattle.safety.proofs.Weighing.{weight_mono}
use Rattle.safety.proofs.Safety.{weight_padded, in_table_lem, end_ready, own_stored, counted, lawful}
use Rattle.chain.specs.OneChain.{kept_by}
use Rattle.progress.specs.Rest.{Initial, Decided, backed, passed}
use Rattle.progress.specs.Progress as end
use Rattle.progress.specs.Watching.{DecidedEverywhere, notarized, skipped_over}
use Rattle.progress.proofs.NeverHangs as progress
use Rattle.progress.proofs.Resting as ledger
use Rattle.progress.proofs.Ends.{lives_settle, parents_alone}
use Rattle.progress.proofs.Watching.{Stand, behind, over, three_there, four_there, armed_up}
use Rattle.stopped.specs.Leaning as lean
use Rattle.stopped.specs.Stopped as spec
use Rattle.stopped.proofs.Deciding.{some_live, live_decided, live_next_armed}
use Rattle.stopped.proofs.Falling as falling

-- Rule D's weights in the table are so in a fresh node's padded one.
pub d_ledger : (ws : List ℕ) (me g : ℕ) (l : Ledger) (p q : Test) → SameTable (fresh ws me g) l
    → T (d_weights (total_to ws (length ws)) (weight ws (length ws) p) (weight ws (length ws) q))
    → T (d_weights l.total (weight l.stakes l.count p) (weight l.stakes l.count q))
unfolding fresh
d_ledger ws me g l p q same t =
    rw (same.total, same.stakes, same.count, weight_padded ws _ p, weight_padded ws _ q) t

module _ (stakes : List ℕ) (genesis : ℕ → ℕ) (honest live : Test) (fed : ℕ → List Arrival) (ring : Ring stakes genesis honest fed)
    (enough : spec.LiveEnough stakes genesis honest live fed) where
  abbrev ends : ℕ → Ledger
  ends n = life stakes genesis honest fed n

  abbrev casts : ℕ → ℕ → Ballot → Bool
  casts s n v = has (cell_at (ends n) s n) v

  abbrev kept_at : ℕ → ℕ → ℕ → ℕ → ℕ → Bool
  kept_at = kept_by stakes genesis honest fed

  abbrev pools : ℕ → ℕ → ℕ → Ballot → Bool
  pools n s m v = has (cell_at (ends n) s m) v

  abbrev arm : ℕ → ℕ → Bool
  arm n s = is_armed (ends n) s

  module _ (n : ℕ) (alive : T (live n)) where
    h : T (honest n)
    h = enough.honest_too n alive

    reach : (k : ℕ) (p : Test) → Heavy k stakes (length stakes) p → T (reaches k (ends n).total (weight (ends n).stakes (ends n).count p))
    reach = progress.reach stakes genesis honest fed ring live n h

    -- THE RULES MEET THE INTERFACE, as they do that of progress; rule D by both its arms.
    resting : end.AtRest (ends n) → lean.Resting stakes (length stakes) honest live genesis casts kept_at pools arm n
    resting rest =
        let own = progress.resting stakes genesis honest fed ring live n h rest in
        record {
          arms = own.arms;
          falls_back = λ s b lo hi init nb nf w g. falling.falls (ends n) (progress.positive stakes genesis honest fed ring live n h) rest
              (progress.votes stakes genesis honest fed ring live n h) n (progress.mine stakes genesis honest fed ring live n h) s b lo hi
              (progress.present stakes genesis honest fed ring live n h s init) nb nf
              (d_ledger stakes n (genesis n) (ends n) (λ m. pools n s m (notar b)) (λ m. pools n s m skip) (progress.same stakes genesis honest fed ring live n h) w)
              (λ z. let x = g z in
              record {
                slot = x.slot;
                parent = x.parent;
                keeps = x.keeps;
                above = x.some;
                below = x.lower;
                holds = reach 3 (λ m. pools n x.slot m (notar x.parent) || pools n x.slot m (notar_fallback x.parent)) x.held;
              });
          skips_late = own.skips_late;
          window = own.window;
        }

    voted : (s : ℕ) → Initial stakes (length stakes) live genesis casts kept_at pools arm n s → T (not (no_initial (own_cell (ends n) s)))
    voted s init = rw (progress.mine stakes genesis honest fed ring live n h s) (progress.present stakes genesis honest fed ring live n h s init)

    -- What its own cell has it cast, and what it cast stands there.
    told : (s : ℕ) (v : Ballot) → T (casts s n v) → T (cast_by stakes genesis honest fed n s v)
    told s v t = counted stakes genesis honest fed ring n n s v h h t

    stands : (s : ℕ) (v : Ballot) → T (cast_by stakes genesis honest fed n s v) → T (casts s n v)
    stands s v t = own_stored stakes genesis honest fed ring n s v h t

  -- ---- live weights by records and by own cells

  module _ (s b : ℕ) where
    for_less : weight stakes (length stakes) (λ n. live n && cast_by stakes genesis honest fed n s (notar b)) ≤ weight stakes (length stakes) (λ n. live n && casts s n (notar b))
    for_less =
        weight_mono stakes (length stakes) (λ n. live n && cast_by stakes genesis honest fed n s (notar b)) (λ n. live n && casts s n (notar b))
        (λ n z. let a = and_t (live n) (cast_by stakes genesis honest fed n s (notar b)) z in
        T_and (live n) (casts s n (notar b)) a.0 (stands n a.0 s (notar b) a.1))

    out_less : weight stakes (length stakes) (λ n. live n && not (cast_by stakes genesis honest fed n s (notar b))) ≤ weight stakes (length stakes) (λ n. live n && not (casts s n (notar b)))
    out_less =
        weight_mono stakes (length stakes) (λ n. live n && not (cast_by stakes genesis honest fed n s (notar b))) (λ n. live n && not (casts s n (notar b)))
        (λ n z. let a = and_t (live n) (not (cast_by stakes genesis honest fed n s (notar b))) z in
        T_and (live n) (not (casts s n (notar b))) a.0
        (not_T (casts s n (notar b)) (λ t. T_not (cast_by stakes genesis honest fed n s (notar b)) a.1 (told n a.0 s (notar b) t))))

    both_less : weight stakes (length stakes) (λ n. live n && (cast_by stakes genesis honest fed n s skip || cast_by stakes genesis honest fed n s (notar b)))
        ≤ weight stakes (length stakes) (λ n. live n && (casts s n skip || casts s n (notar b)))
    both_less =
        weight_mono stakes (length stakes) (λ n. live n && (cast_by stakes genesis honest fed n s skip || cast_by stakes genesis honest fed n s (notar b)))
        (λ n. live n && (casts s n skip || casts s n (notar b)))
        (λ n z. let a = and_t (live n) (cast_by stakes genesis honest fed n s skip || cast_by stakes genesis honest fed n s (notar b)) z in
        T_and (live n) (casts s n skip || casts s n (notar b)) a.0
        (or_t (cast_by stakes genesis honest fed n s skip) (cast_by stakes genesis honest fed n s (notar b)) a.1
        (λ t. T-left (casts s n skip) (casts s n (notar b)) (stands n a.0 s skip t))
        (λ t. T-right (casts s n skip) (casts s n (notar b)) (stands n a.0 s (notar b) t))))

    leans : spec.Leaning stakes genesis honest live fed s b → lean.Leans stakes (length stakes) honest live genesis casts kept_at pools arm s b
    leans (spec.outvoted y) = lean.outvoted (omega (arith, out_less))
    leans (spec.outright y) = lean.outright (omega (arith, for_less))
    leans (spec.with_skips y z) = lean.with_skips (omega (arith, for_less)) (omega (arith, both_less))

  module _ (u : ℕ) (last : u ≤ last_slot) (mail : spec.LiveMailIn stakes genesis honest live fed u) (allLean : spec.AllLean stakes genesis honest live fed u) where
    arrived : lean.LiveMail stakes (length stakes) honest live genesis casts kept_at pools arm u
    arrived =
        record {
          votes = λ n m s v a k lo hi f t. mail.votes n m s v a k lo hi f (told m k s v t);
          initial = λ n s a lo hi t. progress.initial_of stakes genesis honest fed ring live n (enough.honest_too n a) s (mail.initial n s a lo hi t);
          blocks = λ n m s b p x a k hi init f v t w.
              mail.blocks n m s b p x a k hi (λ j l. voted j l s (init j l)) f (told n a s (notar b) v) t
              (omega (arith, w, out_less s b));
          leans = λ n s b lo hi init a t. leans s b (allLean n s b lo hi (λ m k. voted m k s (init m k)) a (told n a s (notar b) t));
        }

    quiet : lean.Quiet stakes (length stakes) honest live genesis casts kept_at pools arm u
    quiet =
        record {
          some = omega (arith, ring.few);
          heavy = enough.heavy;
          honest_too = enough.honest_too;
          slots = λ n a s. lawful stakes genesis honest fed ring s n (enough.honest_too n a);
          follows = λ n a s b f t. let g = ((end_ready stakes genesis honest fed ring n (enough.honest_too n a)).inv.grounds s (notar b) t).next f in
              record { slot = g.slot; parent = g.parent; keeps = g.kept; before = g.before; voted = g.voted };
          alone = λ n s b p x q y a t v. parents_alone stakes n (genesis n) (ring.started n (enough.honest_too n a)) (fed n) s b p x q y t v;
          in_table = λ n a. in_table_lem stakes genesis honest fed ring n (enough.honest_too n a);
          resting = λ n a. resting n a (lives_settle stakes n (genesis n) (ring.started n (enough.honest_too n a)) (fed n) (mail.woken n a));
          last = last;
          mail = arrived;
        }

    -- A block that every live node stands behind is one.
    is_block_lem : (s b : ℕ) → ((n : ℕ) → T (live n) → T (casts s n (notar b) || casts s n (notar_fallback b))) → T (not (none b))
    is_block_lem s b all =
        let n = some_live stakes (length stakes) honest live genesis casts kept_at pools arm u quiet in
        let c = cell_at (ends n.0) s n.0 in
        or_t (has c (notar b)) (has c (notar_fallback b)) (all n.0 n.1) (λ t. (and_t (not (none b)) _ t).0) (λ t. (and_t (not (none b)) _ t).0)

    abbrev Settles : ℕ → Type 0
    Settles s = Decided stakes (length stakes) live genesis casts kept_at pools arm s

    settles : (s : ℕ) → 1 ≤ s → s ≤ u → Settles s
    settles s lo hi = (live_decided stakes (length stakes) honest live genesis casts kept_at pools arm u quiet s lo hi).decided

    -- A vote of the one kind or the other in a live node's own cell is one that it cast.
    either_cast : (m s : ℕ) (v w : Ballot) → T (live m) → T (casts s m v || casts s m w) → T (cast_by stakes genesis live fed m s v || cast_by stakes genesis live fed m s w)
    either_cast m s v w a t =
        or_t (casts s m v) (casts s m w) t
        (λ x. T-left (cast_by stakes genesis live fed m s v) (cast_by stakes genesis live fed m s w) (told m a s v x))
        (λ x. T-right (cast_by stakes genesis live fed m s v) (cast_by stakes genesis live fed m s w) (told m a s w x))

    all_stand : (s : ℕ) → Settles s → Stand stakes genesis live fed s
    all_stand s (backed b all held) = behind b (λ m a. either_cast m s (notar b) (notar_fallback b) a (all m a))
    all_stand s (passed all held) = over (λ m a. either_cast m s skip skip_fallback a (all m a))

    decided : (s : ℕ) → 1 ≤ s → s ≤ u → Settles s → DecidedEverywhere stakes genesis live fed u s
    decided s lo hi (backed b all f) =
        notarized b (is_block_lem s b all) (λ n a. ledger.three_held (ends n) s b (reach n a 3 (λ m. pools n s m (notar b) || pools n s m (notar_fallback b)) (f n a)))
        (λ g lived w. ledger.three_held (watched stakes g lived) s b (three_there stakes genesis live fed enough.heavy u g lived w s b lo hi
        (λ m a. either_cast m s (notar b) (notar_fallback b) a (all m a))))
    decided s lo hi (passed all f) =
        skipped_over (λ n a. ledger.four_held (ends n) s (reach n a 3 (λ m. pools n s m skip || pools n s m skip_fallback) (f n a)))
        (λ g lived w. ledger.four_held (watched stakes g lived) s (four_there stakes genesis live fed enough.heavy u g lived w s lo hi
        (λ m a. either_cast m s skip skip_fallback a (all m a))))

-- Of the live nodes alone.
nodes : (stakes : List ℕ) (genesis : ℕ → ℕ) (live : Test) (fed : ℕ → List Arrival) (u s : ℕ) → DecidedEverywhere stakes genesis live fed u s → end.Decided stakes genesis live fed s
nodes stakes genesis live fed u s (notarized b some at seen) = end.notarized b some at
nodes stakes genesis live fed u s (skipped_over at seen) = end.skipped_over at

pub live_watchers_decide : spec.LiveWatchersDecide
live_watchers_decide stakes genesis honest live fed ring enough u last mail allLean s lo hi =
    decided stakes genesis honest live fed ring enough u last mail allLean s lo hi (settles stakes genesis honest live fed ring enough u last mail allLean s lo hi)

pub live_watchers_arm : spec.LiveWatchersArm
live_watchers_arm stakes genesis honest live fed ring enough u last mail allLean g lived w s lo hi top =
    armed_up stakes genesis live fed enough.heavy u g lived w
    (λ t x y. all_stand stakes genesis honest live fed ring enough u last mail allLean t (settles stakes genesis honest live fed ring enough u last mail allLean t x y)) s lo hi top

pub live_never_hang : spec.LiveNeverHang
live_never_hang stakes genesis honest live fed ring enough u last mail allLean s lo hi =
    record {
      armed = (live_decided stakes (length stakes) honest live genesis (casts stakes genesis honest live fed ring enough) (kept_by stakes genesis honest fed)
          (pools stakes genesis honest live fed ring enough) (arm stakes genesis honest live fed ring enough) u (quiet stakes genesis honest live fed ring enough u last mail allLean) s lo hi).arming;
      decided = nodes stakes genesis live fed u s (live_watchers_decide stakes genesis honest live fed ring enough u last mail allLean s lo hi);
    }

pub live_next_window : spec.LiveNextWindow
live_next_window stakes genesis honest live fed ring enough u last mail allLean f n a =
    live_next_armed stakes (length stakes) honest live genesis (casts stakes genesis honest live fed ring enough) (kept_by stakes genesis honest fed)
    (pools stakes genesis honest live fed ring enough) (arm stakes genesis honest live fed ring enough) u
    (quiet stakes genesis honest live fed ring enough u (omega arith) mail allLean) last f n a
