-- What was fed is enough, over seen lives.
use mathlib.Core.Path.{◌≡◌, sym, ap, ◌∙◌, subst}
use mathlib.Core.Bool.{true, not, ◌&&◌, ◌||◌}
use mathlib.Core.List.{List, ◌++◌}
use Prim.Native.Nat.{ℕ, suc}
use native.Mathlib.Omega.{arith}
use lib.Dec.{T}
use lib.ListN.{length}
use Rattle.rulebook.specs.declared.Cell.{Cell}
use Rattle.rulebook.specs.Weights.{last_slot, total_to, reaches}
use Rattle.rulebook.specs.Ledger.{Ledger, fresh, cell_at, no_initial, own_cell, is_armed, blocks_at, some_block, is_free, has_number, keeps_block}
use Rattle.rulebook.specs.Rules.{fallback_weights}
use Rattle.rulebook.specs.Taking.{Arrival}
use Rattle.safety.specs.Slot.{Test, notar}
use Rattle.safety.specs.Ballots.{has}
use Rattle.safety.specs.Ring as safe
use Rattle.safety.specs.Ring.{after_all, life, cast_by}
use Rattle.safety.specs.Watchers.{HoldsGenuine}
use Rattle.safety.proofs.Tests.{and_t, T_and, or_t, T-left, T-right}
use Rattle.safety.proofs.Weighing.{reaches_more, weight_mono}
use Rattle.safety.proofs.Lives.{start_sized, fresh_ready, life_ready}
use Rattle.progress.specs.Progress as book
use Rattle.progress.proofs.Ends as ends
use Rattle.mail.specs.Mail.{timed_out_in}
use Rattle.mail.specs.Policy.{may_announce, as_node}
use Rattle.mail.specs.Host as host
use Rattle.mail.specs.Rounds as rounds
use Rattle.mail.proofs.Votes as fedVotes
use Rattle.mail.proofs.Timeouts as fedTimeouts
use Rattle.mail.proofs.Policy as fedBlocks
use Rattle.mail.proofs.Host as feeding
use Rattle.mail.proofs.Rounds as feeds
use Rattle.seen.specs.Seen.{Seen, ledger_in, NodeSeen}
use Rattle.seen.specs.Ring.{Lives, told_ballot, Nodes, Ring}
use Rattle.seen.specs.Progress.{armed_in, told_stake, MailIn}
use Rattle.seen.specs.Fed.{TimedOutIsEnough, PolicyHasRoom, AnnouncedIsKept, FedIsEnough, WatcherFedIsEnough, Asked, MailFed, MailFedIsEnough, AskedBlocksWeigh, FedNeverHangs, Rounds, FeedingEnds, RoundsDecide, NoRingStuck}
use Rattle.seen.proofs.More.{holds_more}
use Rattle.seen.proofs.Further.{further_mail}
use Rattle.seen.proofs.Ring.{told_cast, cast_told, book_ring, seen_ring, book_fed_ring}
use Rattle.seen.proofs.Chain.{parents, arrivals_are_enough}
use Rattle.seen.proofs.Progress.{ledger_is, stake_told, never_hangs}

-- ---- one life

module _ (stakes : List ℕ) (own genesis : ℕ) (l : Seen) (h : NodeSeen stakes own genesis l) where
  -- The own cell is the one under the number of the start.
  pub own_cell_lem : (s : ℕ) → own_cell (after_all (fresh stakes own genesis) l.came) s ≡ cell_at (ledger_in l) s own
  own_cell_lem s =
      let start : Ledger = fresh stakes own genesis in
      let e = (life_ready own start l.came (fresh_ready stakes own genesis (start_sized stakes own genesis h.started))).own in
      ap (cell_at (after_all start l.came) s) e ∙ ap (λ (m : Ledger). cell_at m s own) (sym h.lived.ledger)

pub timed_out_is_enough : TimedOutIsEnough
timed_out_is_enough stakes own genesis l h s t =
    subst (λ (c : Cell). T (not (no_initial c))) (own_cell_lem stakes own genesis l h s)
    (fedTimeouts.timed_out_is_enough stakes own genesis h.started l.came s t)

pub policy_has_room : PolicyHasRoom
policy_has_room stakes own genesis l h policy s b lo hi some may new =
    let e = h.lived.ledger in
    subst (λ (m : Ledger). T (some_block is_free (blocks_at m s))) (sym e)
    (fedBlocks.policy_has_room stakes own genesis (as_node h.started) l.came policy s b lo hi some
    (subst (λ (m : Ledger). T (may_announce m s b)) e may) (subst (λ (m : Ledger). T (not (some_block (has_number b) (blocks_at m s)))) e new))

pub announced_is_kept : AnnouncedIsKept
announced_is_kept stakes own genesis l h policy s b p x lo hi fits t other =
    let e = h.lived.ledger in
    subst (λ (m : Ledger). T (keeps_block m s b p x)) (sym e)
    (fedBlocks.announced_is_kept stakes own genesis (as_node h.started) l.came policy s b p x lo hi fits t
    (λ q y u. other q y (subst (λ (m : Ledger). T (keeps_block m s b q y)) (sym e) u)))

-- ---- the ring

pub fed_is_enough : FedIsEnough
fed_is_enough stakes genesis honest lives ring n m s v h k ne lo hi t u =
    subst (λ (l : Ledger). T (has (cell_at l s m) v)) (sym (ledger_is stakes genesis honest lives ring n h))
    (fedVotes.fed_is_enough stakes genesis honest (λ n. (lives n).came) (book_ring stakes genesis honest lives ring) n m s v h k ne lo hi
    (told_cast stakes genesis honest lives ring.nodes.lived m s v k t) u)

pub watcher_fed_is_enough : WatcherFedIsEnough
watcher_fed_is_enough stakes genesis honest lives ring g l w holds m s v k lo hi t u =
    let fed : ℕ → List Arrival = λ n. (lives n).came in
    let told = told_cast stakes genesis honest lives ring.nodes.lived in
    let e = w.lived.ledger in
    subst (λ (m' : Ledger). T (has (cell_at m' s m) v)) (sym e)
    (fedVotes.watcher_fed_is_enough stakes genesis honest fed (book_ring stakes genesis honest lives ring) g w.started l.came
    (subst (HoldsGenuine honest (cast_by stakes genesis honest fed)) e (holds_more honest (told_ballot lives) (cast_by stakes genesis honest fed) told _ holds))
    m s v k lo hi (told m s v k t) u)

module _ (stakes : List ℕ) (genesis : ℕ → ℕ) (honest : Test) (lives : Lives) (ring : Ring stakes genesis honest lives) where
  abbrev fed : ℕ → List Arrival
  fed n = (lives n).came

  abbrev all : (n : ℕ) → T (honest n) → NodeSeen stakes n (genesis n) (lives n)
  all = ring.nodes.lived

  abbrev end : ℕ → Ledger
  end n = life stakes genesis honest fed n

  now : (n : ℕ) → T (honest n) → ledger_in (lives n) ≡ end n
  now = ledger_is stakes genesis honest lives ring

  pub armed_words : (n s : ℕ) → T (honest n) → T (is_armed (end n) s) → T (armed_in (lives n) s)
  armed_words n s h t = subst (λ (l : Ledger). T (is_armed l s)) (sym (now n h)) t

  pub initial_or_timed : (n s : ℕ) → T (honest n) → T (not (no_initial (cell_at (ledger_in (lives n)) s n)) || timed_out_in (fresh stakes n (genesis n)) (fed n) s)
      → T (not (no_initial (own_cell (end n) s)) || timed_out_in (fresh stakes n (genesis n)) (fed n) s)
  initial_or_timed n s h t =
      let one = not (no_initial (own_cell (end n) s)) in
      let two = timed_out_in (fresh stakes n (genesis n)) (fed n) s in
      or_t (not (no_initial (cell_at (ledger_in (lives n)) s n))) (timed_out_in (fresh stakes n (genesis n)) (fed n) s) t
      (λ u. T-left one two (subst (λ (c : Cell). T (not (no_initial c))) (sym (own_cell_lem stakes n (genesis n) (lives n) (all n h) s)) u))
      (λ u. T-right one two u)

  -- No less stake cast a vote than told it.
  heavy_cast : (s b : ℕ) → T (reaches 2 (total_to stakes (length stakes)) (told_stake stakes honest lives s b)) → T (reaches 2 (total_to stakes (length stakes)) (book.honest_stake stakes genesis honest fed s b))
  heavy_cast s b =
      reaches_more 2 (total_to stakes (length stakes)) (told_stake stakes honest lives s b) (book.honest_stake stakes genesis honest fed s b)
      (weight_mono stakes (length stakes) (λ n. honest n && told_ballot lives n s (notar b)) (λ n. honest n && cast_by stakes genesis honest fed n s (notar b))
      (λ n t. let a = and_t (honest n) (told_ballot lives n s (notar b)) t in
      T_and (honest n) (cast_by stakes genesis honest fed n s (notar b)) a.0 (told_cast stakes genesis honest lives all n s (notar b) a.0 a.1)))

  -- What is asked for by the ledgers is asked for by the words.
  asked_words : (n s b p x : ℕ) → host.Asked stakes genesis honest fed n s b p x → Asked stakes honest lives n s b p x
  asked_words n s b p x a =
      record {
        next = a.next;
        voter = a.voter;
        voted = cast_told stakes genesis honest lives all n s (notar b) a.voter a.voted;
        kept = subst (λ (l : Ledger). T (keeps_block l s b p x)) (sym (now n a.voter)) a.kept;
        heavy = reaches_more 2 (total_to stakes (length stakes)) (book.honest_stake stakes genesis honest fed s b) (told_stake stakes honest lives s b) (stake_told stakes genesis honest lives ring s b) a.heavy;
      }

  -- And the other way.
  pub asked_ledgers : (n s b p x : ℕ) → Asked stakes honest lives n s b p x → host.Asked stakes genesis honest fed n s b p x
  asked_ledgers n s b p x a =
      record {
        next = a.next;
        voter = a.voter;
        voted = told_cast stakes genesis honest lives all n s (notar b) a.voter a.voted;
        kept = subst (λ (l : Ledger). T (keeps_block l s b p x)) (now n a.voter) a.kept;
        heavy = heavy_cast s b a.heavy;
      }

  -- The mail that was fed with the calls was fed,
  mail_fed : (u : ℕ) → MailFed stakes genesis honest lives u → host.MailFed stakes genesis honest fed u
  mail_fed u mail =
      record {
        woken = λ n h. mail.woken n h;
        votes = λ n m s v h k ne lo hi f t. mail.votes n m s v h k ne lo hi f (cast_told stakes genesis honest lives all m s v k t);
        timeouts = λ n s h lo hi t. initial_or_timed n s h (mail.timeouts n s h lo hi (armed_words n s h t));
        blocks = λ n m s b p x k hi a. mail.blocks n m s b p x k hi (asked_words n s b p x a);
        policy = λ n h. mail.policy n h;
      }

  -- and mail that is in by the ledgers is in by the words.
  pub mail_words : (u : ℕ) → book.MailIn stakes genesis honest fed u → MailIn stakes honest lives u
  mail_words u mail =
      record {
        woken = λ n h. armed_words n 1 h (subst T (ends.woken_armed stakes n (genesis n) (all n h).started (fed n)) (mail.woken n h));
        votes = λ n m s v h k lo hi f t. subst (λ (l : Ledger). T (has (cell_at l s m) v)) (sym (now n h))
            (mail.votes n m s v h k lo hi f (told_cast stakes genesis honest lives all m s v k t));
        initial = λ n s h lo hi t. subst (λ (c : Cell). T (not (no_initial c))) (own_cell_lem stakes n (genesis n) (lives n) (all n h) s)
            (mail.initial n s h lo hi (subst (λ (l : Ledger). T (is_armed l s)) (now n h) t));
        blocks = λ n m s b p x h k hi f v t w. subst (λ (l : Ledger). T (keeps_block l s b p x)) (sym (now m k))
            (mail.blocks n m s b p x h k hi f (told_cast stakes genesis honest lives all n s (notar b) h v)
            (subst (λ (l : Ledger). T (keeps_block l s b p x)) (now n h) t)
            (heavy_cast s b w));
      }

pub mail_fed_is_enough : MailFedIsEnough
mail_fed_is_enough stakes genesis honest lives ring one u last mail =
    mail_words stakes genesis honest lives ring u
    (feeding.mail_fed_is_enough stakes genesis honest (λ n. (lives n).came) (book_ring stakes genesis honest lives ring)
    (parents stakes genesis honest lives ring.nodes.lived one) u last (mail_fed stakes genesis honest lives ring u mail))

pub asked_blocks_weigh : AskedBlocksWeigh
asked_blocks_weigh stakes genesis honest lives ring n m s b p x k a pool =
    let all = ring.nodes.lived in
    let end = ledger_is stakes genesis honest lives ring in
    subst (λ (l : Ledger). T (fallback_weights l s b)) (sym (end m k))
    (feeding.asked_blocks_weigh stakes genesis honest (λ n. (lives n).came) (book_ring stakes genesis honest lives ring) n m s b p x k
    (asked_ledgers stakes genesis honest lives ring n s b p x a)
    (λ i h t. subst (λ (l : Ledger). T (has (cell_at l s i) (notar b))) (end m k) (pool i h (cast_told stakes genesis honest lives all i s (notar b) h t))))

pub fed_never_hangs : FedNeverHangs
fed_never_hangs stakes genesis honest lives ring once u last mail s lo hi =
    let r = arrivals_are_enough stakes genesis honest lives ring once in
    never_hangs stakes genesis honest lives r.0 u last (mail_fed_is_enough stakes genesis honest lives r.0 r.1 u last mail) s lo hi

-- ---- that it ends

module _ (stakes : List ℕ) (genesis : ℕ → ℕ) (honest : Test) (lives : ℕ → Lives) (u : ℕ) (r : Rounds stakes genesis honest lives u) where
  rounds_fed : rounds.Rounds stakes genesis honest (λ k n. (lives k n).came) u
  rounds_fed =
      record {
        more = λ k n. (r.go_on k n).since;
        go_on = λ k n. (r.go_on k n).goes_on;
        ring = λ k. book_ring stakes genesis honest (lives k) (r.ring k);
        one_parent = λ k. parents stakes genesis honest (lives k) (r.ring k).nodes.lived (r.one_parent k);
        policy = λ k n h. r.policy k n h;
        woken = λ k n h. r.woken k n h;
        votes = λ k n m s v h g ne lo hi f t. r.votes k n m s v h g ne lo hi f (cast_told stakes genesis honest (lives k) (r.ring k).nodes.lived m s v g t);
        timeouts = λ k n s h lo hi t. initial_or_timed stakes genesis honest (lives (suc k)) (r.ring (suc k)) n s h
            (r.timeouts k n s h lo hi (armed_words stakes genesis honest (lives k) (r.ring k) n s h t));
        blocks = λ k n m s b p x g hi a. r.blocks k n m s b p x g hi (asked_words stakes genesis honest (lives k) (r.ring k) n s b p x a);
      }

pub feeding_ends : FeedingEnds
feeding_ends stakes genesis honest lives u last r =
    let e = feeds.feeding_ends stakes genesis honest (λ k n. (lives k n).came) u last (rounds_fed stakes genesis honest lives u r) in
    record { round = e.round; soon = e.soon; mail = mail_words stakes genesis honest (lives e.round) (r.ring e.round) u e.mail }

pub rounds_decide : RoundsDecide
rounds_decide stakes genesis honest lives u last r =
    let e = feeding_ends stakes genesis honest lives u last r in
    record { round = e.round; soon = e.soon; going = never_hangs stakes genesis honest (lives e.round) (r.ring e.round) u last e.mail }

-- ---- and it can be done

pub no_ring_stuck : NoRingStuck
no_ring_stuck stakes genesis honest lives fed once policy =
    let f = further_mail stakes genesis honest (λ n. (lives n).came) (book_fed_ring stakes genesis honest lives fed) once policy in
    let whole : (after : Lives) → Nodes stakes genesis honest after → ((n : ℕ) → (after n).came ≡ (lives n).came ++ f.further n) → Ring stakes genesis honest after =
    (λ after nodes e. let same : ◌≡◌ {A = ℕ → List Arrival} (λ n. (lives n).came ++ f.further n) (λ n. (after n).came) = (λ i n. sym (e n) i) in
    seen_ring stakes genesis honest after nodes (subst (safe.Ring stakes genesis honest) same f.ring)) in
    record {
      further = f.further;
      ring = whole;
      going = λ after nodes e.
          let same : ◌≡◌ {A = ℕ → List Arrival} (λ n. (lives n).came ++ f.further n) (λ n. (after n).came) = (λ i n. sym (e n) i) in
          let r = whole after nodes e in
          never_hangs stakes genesis honest after r last_slot (omega arith)
          (mail_words stakes genesis honest after r last_slot (subst (λ (g : ℕ → List Arrival). book.MailIn stakes genesis honest g last_slot) same f.mail));
    }
