-- The written rules meet the interface of progress, and so the ring never hangs.
use mathlib.Core.Path.{◌≡◌, sym, ap, ◌∙◌, subst}
use mathlib.Core.Bool.{Bool, false, not, ◌&&◌, ◌||◌}
use mathlib.Core.List.{List}
use Prim.Native.Nat.{ℕ, zero, suc, ◌-◌, ◌≤◌}
use native.Mathlib.Omega.{arith}
use lib.Dec.{T, eqb, eqb→eq, eqb_refl, T_not, not_T}
use lib.ListN.{length, replicate, get_or}
use Rattle.rulebook.specs.Tools.{all_to}
use Rattle.rulebook.specs.Weights.{places_for, last_slot, weight, total_to, reaches, is_first, window_of}
use Rattle.rulebook.specs.Ledger.{Ledger, none, fresh, cell_at, is_watcher, own_cell, no_initial, is_armed}
use Rattle.rulebook.specs.Taking.{Arrival}
use Rattle.rule_laws.proofs.ToolLaws.{all_at}
use Rattle.safety.specs.Slot.{Test, Ballot, notar, notar_fallback, skip, skip_fallback, Heavy}
use Rattle.safety.specs.Ballots.{has}
use Rattle.safety.specs.Moves.{not_for, SameTable}
use Rattle.safety.specs.Ring.{life, cast_by, Ring}
use Rattle.safety.proofs.Tests.{T_true, true_t, not_false, and_t, T_and, or_t}
use Rattle.safety.proofs.Weighing.{reaches_more, weight_mono}
use Rattle.safety.proofs.Cells.{initial_cases, notar_present, skip_present, is_notar, notar_some, not_both, one_block}
use Rattle.safety.proofs.Safety.{weight_padded, in_table_lem, end_ready, end_table, counted, lawful}
use Rattle.chain.specs.OneChain.{kept_by}
use Rattle.progress.specs.Rest.{Backs, Initial, voted, skips, Elsewhere, skipped, other, Resting, Arrived, Decided, backed, passed, Still}
use Rattle.progress.specs.Progress as end
use Rattle.progress.proofs.Going.{some_honest, slots_decided, next_armed}
use Rattle.progress.proofs.Resting as ledger
use Rattle.progress.proofs.Ends.{lives_settle, parents_alone}

-- What reaches its threshold in the table does so in a fresh node's padded one.
pub as_ledger : (k : ℕ) (ws : List ℕ) (me g : ℕ) (l : Ledger) (p : Test) → SameTable (fresh ws me g) l
    → Heavy k ws (length ws) p → T (reaches k l.total (weight l.stakes l.count p))
unfolding fresh
as_ledger k ws me g l p same t =
    rw (same.total, same.stakes, same.count, weight_padded ws (replicate (places_for (length ws) - length ws) 0) p) t

-- Slots of one window.
windows_meet : T (all_to 15 (λ i. is_first (suc (suc i)) || eqb (window_of (suc (suc i))) (window_of (suc i))))
unfolding all_to is_first window_of
windows_meet = tt

pub same_window : (s : ℕ) → 1 ≤ s → suc s ≤ last_slot → T (not (is_first (suc s))) → window_of (suc s) ≡ window_of s
same_window zero lo hi nf = absurd (omega arith)
same_window (suc i) lo hi nf =
    let f : ℕ → Bool = λ i. is_first (suc (suc i)) || eqb (window_of (suc (suc i))) (window_of (suc i)) in
    or_t (is_first (suc (suc i))) (eqb (window_of (suc (suc i))) (window_of (suc i))) (true_t (f i) (all_at 15 i f (T_true (all_to 15 f) windows_meet) (omega arith)))
    (λ u. absurd (T_not (is_first (suc (suc i))) nf u)) (λ u. eqb→eq (window_of (suc (suc i))) (window_of (suc i)) u)

module _ (stakes : List ℕ) (genesis : ℕ → ℕ) (honest : Test) (fed : ℕ → List Arrival) (ring : Ring stakes genesis honest fed) where
  abbrev ends : ℕ → Ledger
  ends n = life stakes genesis honest fed n

  abbrev pub casts : ℕ → ℕ → Ballot → Bool
  casts s n v = has (cell_at (ends n) s n) v

  abbrev kept_at : ℕ → ℕ → ℕ → ℕ → ℕ → Bool
  kept_at = kept_by stakes genesis honest fed

  abbrev pub pools : ℕ → ℕ → ℕ → Ballot → Bool
  pools n s m v = has (cell_at (ends n) s m) v

  abbrev pub arm : ℕ → ℕ → Bool
  arm n s = is_armed (ends n) s

  -- Of an honest node, and of any nodes that the interface speaks of.
  module _ (nodes : Test) (n : ℕ) (h : T (honest n)) where
    pub same : SameTable (fresh stakes n (genesis n)) (ends n)
    same = end_table stakes genesis honest fed ring n h

    pub mine : (s : ℕ) → own_cell (ends n) s ≡ cell_at (ends n) s n
    mine s = ap (λ (j : ℕ). cell_at (ends n) s j) (end_ready stakes genesis honest fed ring n h).own

    pub votes : is_watcher (ends n) ≡ false
    unfolding is_watcher fresh
    votes =
        not_false (eqb (ends n).own (ends n).count) (not_T (eqb (ends n).own (ends n).count)
        (λ t. omega (arith, eqb→eq (ends n).own (ends n).count t, same.own, same.count, in_table_lem stakes genesis honest fed ring n h)))

    pub positive : 1 ≤ (ends n).total
    positive = (end_ready stakes genesis honest fed ring n h).inv.some

    pub reach : (k : ℕ) (p : Test) → Heavy k stakes (length stakes) p → T (reaches k (ends n).total (weight (ends n).stakes (ends n).count p))
    reach k p t = as_ledger k stakes n (genesis n) (ends n) p same t

    backs : (p x : ℕ) → Backs stakes (length stakes) nodes genesis casts kept_at pools arm n p x → ledger.BackedBy (ends n) positive p x
    unfolding fresh
    backs zero x e = e ∙ sym same.genesis
    backs (suc p) x t = reach 3 (λ m. pools n (suc p) m (notar x) || pools n (suc p) m (notar_fallback x)) t

    pub present : (s : ℕ) → Initial stakes (length stakes) nodes genesis casts kept_at pools arm n s → T (not (no_initial (cell_at (ends n) s n)))
    present s (voted c t) = notar_present (cell_at (ends n) s n) (notar_some (cell_at (ends n) s n) c t)
    present s (skips t) = skip_present (cell_at (ends n) s n) t

    elsewhere : (s m b : ℕ) → Elsewhere stakes (length stakes) nodes genesis casts kept_at pools arm n s m b → T (not_for b (cell_at (ends n) s m))
    elsewhere s m b (skipped t) =
        let c = cell_at (ends n) s m in
        T_and (not (no_initial c)) (not (has c (notar b))) (skip_present c t)
        (not_T (has c (notar b)) (λ u. not_both c ((end_ready stakes genesis honest fed ring n h).inv.neat s m) (notar_some c b u) t))
    elsewhere s m b (other d ne t) =
        let c = cell_at (ends n) s m in
        T_and (not (no_initial c)) (not (has c (notar b))) (notar_present c (notar_some c d t))
        (not_T (has c (notar b)) (λ u. ne (one_block c d b t u)))

    -- THE RULES MEET THE INTERFACE of progress.
    pub resting : end.AtRest (ends n) → Resting stakes (length stakes) nodes genesis casts kept_at pools arm n
    resting rest =
        record {
          arms = λ s p x lo hi f lt b between. ledger.arms (ends n) positive rest s p x lo hi f lt (backs p x b)
              (λ t y z. reach 3 (λ m. pools n t m skip || pools n t m skip_fallback) (between t y z));
          falls_back = λ s b lo hi init nb nf w g. ledger.falls (ends n) positive rest votes n mine s b lo hi (present s init) nb nf (reach 2 (λ m. pools n s m (notar b)) w)
              (λ z. let x = g z in
              record {
                slot = x.slot;
                parent = x.parent;
                keeps = x.keeps;
                above = x.some;
                below = x.lower;
                holds = reach 3 (λ m. pools n x.slot m (notar x.parent) || pools n x.slot m (notar_fallback x.parent)) x.held;
              });
          skips_late = λ s c lo hi v nf w. ledger.skips_late_lem (ends n) positive rest votes n mine s c lo hi v nf
              (λ b z. let x = w b in
              reaches_more 2 (ends n).total (weight (ends n).stakes (ends n).count x.set) (weight (ends n).stakes (ends n).count (λ m. not_for b (cell_at (ends n) s m)))
              (weight_mono (ends n).stakes (ends n).count x.set (λ m. not_for b (cell_at (ends n) s m)) (λ m t. elsewhere s m b (x.all m t)))
              (reach 2 x.set x.heavy));
          window = λ s lo hi nf t. subst (λ (w : ℕ). T (not (none (get_or (ends n).armed w 0)))) (sym (same_window s lo hi nf)) t;
        }

    pub initial_of : (s : ℕ) → T (not (no_initial (own_cell (ends n) s))) → Initial stakes (length stakes) nodes genesis casts kept_at pools arm n s
    initial_of s t =
        let c = cell_at (ends n) s n in
        initial_cases c (rw (mine s) at t) (λ z. voted c.notar (is_notar c c.notar z (eqb_refl c.notar))) (λ z. skips z)

  module _ (u : ℕ) (last : u ≤ last_slot) (mail : end.MailIn stakes genesis honest fed u) where
    -- What a node's own cell has is what it cast, and so the mail is in for the votes of own cells.
    arrived : Arrived stakes (length stakes) honest genesis casts kept_at pools arm u
    arrived =
        record {
          votes = λ n m s v h k lo hi f t. mail.votes n m s v h k lo hi f (counted stakes genesis honest fed ring m m s v k k t);
          initial = λ n s h lo hi t. initial_of honest n h s (mail.initial n s h lo hi t);
          blocks = λ n m s b p x h k hi f v t w.
              mail.blocks n m s b p x h k hi f (counted stakes genesis honest fed ring n n s (notar b) h h v) t
              (reaches_more 2 (total_to stakes (length stakes)) (weight stakes (length stakes) (λ j. honest j && casts s j (notar b))) (end.honest_stake stakes genesis honest fed s b)
              (weight_mono stakes (length stakes) (λ j. honest j && casts s j (notar b)) (λ j. honest j && cast_by stakes genesis honest fed j s (notar b))
              (λ j z. let a = and_t (honest j) (casts s j (notar b)) z in
              T_and (honest j) (cast_by stakes genesis honest fed j s (notar b)) a.0 (counted stakes genesis honest fed ring j j s (notar b) a.0 a.0 a.1))) w);
        }

    pub still : Still stakes (length stakes) honest genesis casts kept_at pools arm u
    still =
        record {
          few = ring.few;
          slots = λ n h s. lawful stakes genesis honest fed ring s n h;
          follows = λ n h s b f t. let g = ((end_ready stakes genesis honest fed ring n h).inv.grounds s (notar b) t).next f in
              record { slot = g.slot; parent = g.parent; keeps = g.kept; before = g.before; voted = g.voted };
          alone = λ n s b p x q y h t v. parents_alone stakes n (genesis n) (ring.started n h) (fed n) s b p x q y t v;
          in_table = in_table_lem stakes genesis honest fed ring;
          resting = λ n h. resting honest n h (lives_settle stakes n (genesis n) (ring.started n h) (fed n) (mail.woken n h));
          last = last;
          arrived = arrived;
        }

    -- A block that every honest node stands behind is one.
    pub is_block_lem : (s b : ℕ) → ((n : ℕ) → T (honest n) → T (casts s n (notar b) || casts s n (notar_fallback b))) → T (not (none b))
    is_block_lem s b all =
        let n = some_honest stakes (length stakes) honest genesis casts kept_at pools arm u still in
        let c = cell_at (ends n.0) s n.0 in
        or_t (has c (notar b)) (has c (notar_fallback b)) (all n.0 n.1) (λ t. (and_t (not (none b)) _ t).0) (λ t. (and_t (not (none b)) _ t).0)

    decided : (s : ℕ) → Decided stakes (length stakes) honest genesis casts kept_at pools arm s → end.Decided stakes genesis honest fed s
    decided s (backed b all f) =
        end.notarized b (is_block_lem s b all) (λ n h. ledger.three_held (ends n) s b (reach honest n h 3 (λ m. pools n s m (notar b) || pools n s m (notar_fallback b)) (f n h)))
    decided s (passed all f) =
        end.skipped_over (λ n h. ledger.four_held (ends n) s (reach honest n h 3 (λ m. pools n s m skip || pools n s m skip_fallback) (f n h)))

pub never_hangs : end.NeverHangs
never_hangs stakes genesis honest fed ring u last mail s lo hi =
    let g = slots_decided stakes (length stakes) honest genesis (casts stakes genesis honest fed ring) (kept_by stakes genesis honest fed)
    (pools stakes genesis honest fed ring) (arm stakes genesis honest fed ring) u (still stakes genesis honest fed ring u last mail) s lo hi in
    record { armed = g.arming; decided = decided stakes genesis honest fed ring u last mail s g.decided }

pub next_window_armed : end.NextWindowArmed
next_window_armed stakes genesis honest fed ring u last mail f n h =
    next_armed stakes (length stakes) honest genesis (casts stakes genesis honest fed ring) (kept_by stakes genesis honest fed)
    (pools stakes genesis honest fed ring) (arm stakes genesis honest fed ring) u (still stakes genesis honest fed ring u (omega arith) mail) last f n h
