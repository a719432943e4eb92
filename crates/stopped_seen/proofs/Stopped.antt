-- The ring never hangs with a fifth stopped, over seen lives: where the mail is in by the words of the live nodes it is in by their ledgers.
use mathlib.Core.Path.{sym, subst}
use mathlib.Core.Bool.{not, ◌&&◌}
use mathlib.Core.List.{List}
use Prim.Native.Nat.{ℕ, suc, ◌+◌, ◌*◌, ◌≤◌}
use native.Mathlib.Omega.{arith}
use lib.Dec.{T, leb, leb→le, nleb→lt}
use lib.ListN.{length}
use Rattle.rulebook.specs.declared.Cell.{Cell}
use Rattle.rulebook.specs.Weights.{last_slot, weight, total_to}
use Rattle.rulebook.specs.Ledger.{Ledger, cell_at, no_initial, is_armed, keeps_block}
use Rattle.rulebook.specs.Taking.{Arrival}
use Rattle.safety.specs.Slot.{Test, notar}
use Rattle.safety.specs.Ballots.{has}
use Rattle.safety.specs.Ring.{life}
use Rattle.safety.proofs.Tests.{by_test}
use Rattle.safety.proofs.Weighing.{le_reaches, weight_cover}
use Rattle.safety.proofs.Lives.{start_sized, watch_sized}
use Rattle.progress.specs.Watching as watch
use Rattle.progress.proofs.Ends.{woken_armed}
use Rattle.progress.proofs.Watching.{watcher_woken_armed}
use Rattle.stopped.specs.Stopped as book
use Rattle.stopped.proofs.Alive as alive
use Rattle.stopped.proofs.Leans as leans
use Rattle.stopped.proofs.Leans.{honest_heavy, split}
use Rattle.seen.specs.Seen.{Seen, ledger_in, NodeSeen}
use Rattle.seen.specs.Ring.{Lives, told_ballot, Ring}
use Rattle.seen.specs.Progress.{WatcherMail, Decided, notarized, skipped_over}
use Rattle.seen.proofs.Ring.{told_cast, cast_told, book_ring}
use Rattle.seen.proofs.Progress.{gives_three, gives_four}
use Rattle.seen.proofs.Fed.{own_cell_lem}
use Rattle.stopped_seen.specs.Stopped.{live_notar, live_others, LiveMailIn, AllVoted, AllLean, outvoted, outright, OneBlock, TwentyAndTwenty, LiveNeverHang, LiveNextWindow, LiveWatchersArm, OneBlockLeans, OverEightyLeans, NobodyStopped, EchoesLeaveOne, FifthStopped}
use Rattle.stopped_seen.proofs.Weights.{others_same, leaning_down, leaning_up}

-- ---- words and ledgers

module _ (stakes : List ℕ) (genesis : ℕ → ℕ) (honest live : Test) (lives : Lives) (ring : Ring stakes genesis honest lives) (sub : (n : ℕ) → T (live n) → T (honest n)) where
  abbrev pub fed : ℕ → List Arrival
  fed n = (lives n).came

  pub seen_life : (n : ℕ) → T (live n) → NodeSeen stakes n (genesis n) (lives n)
  seen_life n a = ring.nodes.lived n (sub n a)

  abbrev end : ℕ → Ledger
  end n = life stakes genesis honest fed n

  -- What holds of a live node's words holds of its ledger, and back.
  pub to : (P : Ledger → Type 0) (n : ℕ) → T (live n) → P (ledger_in (lives n)) → P (end n)
  to P n a x = subst P (seen_life n a).lived.ledger x

  pub back : (P : Ledger → Type 0) (n : ℕ) → T (live n) → P (end n) → P (ledger_in (lives n))
  back P n a x = subst P (sym (seen_life n a).lived.ledger) x

  pub one_down : (u : ℕ) → OneBlock stakes live lives u → book.OneBlock stakes genesis honest live fed u
  one_down u one n m s b c a k lo hi x y =
      one n m s b c a k lo hi (cast_told stakes genesis live lives seen_life n s (notar b) a x) (cast_told stakes genesis live lives seen_life m s (notar c) k y)

  pub one_up : (u : ℕ) → book.OneBlock stakes genesis honest live fed u → OneBlock stakes live lives u
  one_up u one n m s b c a k lo hi x y =
      one n m s b c a k lo hi (told_cast stakes genesis live lives seen_life n s (notar b) a x) (told_cast stakes genesis live lives seen_life m s (notar c) k y)

  pub voted_up : (s : ℕ) → book.AllVoted stakes genesis honest live fed s → AllVoted stakes live lives s
  voted_up s all n a = subst (λ (c : Cell). T (not (no_initial c))) (own_cell_lem stakes n (genesis n) (lives n) (seen_life n a) s) (all n a)

  pub voted_down : (s : ℕ) → AllVoted stakes live lives s → book.AllVoted stakes genesis honest live fed s
  voted_down s all n a = subst (λ (c : Cell). T (not (no_initial c))) (sym (own_cell_lem stakes n (genesis n) (lives n) (seen_life n a) s)) (all n a)

  pub lean_down : (u : ℕ) → AllLean stakes live lives u → book.AllLean stakes genesis honest live fed u
  lean_down u lean n s b lo hi all a t =
      leaning_down stakes genesis honest live lives seen_life s b (lean n s b lo hi (voted_up s all) a (cast_told stakes genesis live lives seen_life n s (notar b) a t))

  lean_up : (u : ℕ) → book.AllLean stakes genesis honest live fed u → AllLean stakes live lives u
  lean_up u lean n s b lo hi all a t =
      leaning_up stakes genesis honest live lives seen_life s b (lean n s b lo hi (voted_down s all) a (told_cast stakes genesis live lives seen_life n s (notar b) a t))

  mail_down : (u : ℕ) → LiveMailIn stakes live lives u → book.LiveMailIn stakes genesis honest live fed u
  mail_down u mail =
      record {
        woken = λ n a. subst T (sym (woken_armed stakes n (genesis n) (seen_life n a).started (fed n))) (to (λ l. T (is_armed l 1)) n a (mail.woken n a));
        votes = λ n m s v a k lo hi f t. to (λ l. T (has (cell_at l s m) v)) n a (mail.votes n m s v a k lo hi f (cast_told stakes genesis live lives seen_life m s v k t));
        initial = λ n s a lo hi t. subst (λ (c : Cell). T (not (no_initial c))) (sym (own_cell_lem stakes n (genesis n) (lives n) (seen_life n a) s))
            (mail.initial n s a lo hi (back (λ l. T (is_armed l s)) n a t));
        blocks = λ n m s b p x a k hi all f v t w. to (λ l. T (keeps_block l s b p x)) m k
            (mail.blocks n m s b p x a k hi (voted_up s all) f (cast_told stakes genesis live lives seen_life n s (notar b) a v) (back (λ l. T (keeps_block l s b p x)) n a t)
            (omega (arith, w, others_same stakes genesis honest live lives seen_life s b)));
      }

  pub mail_up : (u : ℕ) → book.LiveMailIn stakes genesis honest live fed u → LiveMailIn stakes live lives u
  mail_up u mail =
      record {
        woken = λ n a. back (λ l. T (is_armed l 1)) n a (subst T (woken_armed stakes n (genesis n) (seen_life n a).started (fed n)) (mail.woken n a));
        votes = λ n m s v a k lo hi f t. back (λ l. T (has (cell_at l s m) v)) n a (mail.votes n m s v a k lo hi f (told_cast stakes genesis live lives seen_life m s v k t));
        initial = λ n s a lo hi t. subst (λ (c : Cell). T (not (no_initial c))) (own_cell_lem stakes n (genesis n) (lives n) (seen_life n a) s)
            (mail.initial n s a lo hi (to (λ l. T (is_armed l s)) n a t));
        blocks = λ n m s b p x a k hi all f v t w. back (λ l. T (keeps_block l s b p x)) m k
            (mail.blocks n m s b p x a k hi (voted_down s all) f (told_cast stakes genesis live lives seen_life n s (notar b) a v) (to (λ l. T (keeps_block l s b p x)) n a t)
            (omega (arith, w, others_same stakes genesis honest live lives seen_life s b)));
      }

  -- ---- watchers, and decisions

  watcher_mail : (u g : ℕ) (v : Seen) → WatcherMail stakes live lives u g v → watch.WatcherMail stakes genesis live fed u g v.came
  watcher_mail u g v w =
      let e = w.begun.lived.ledger in
      record {
        started = w.begun.started;
        woken = subst T (sym (watcher_woken_armed stakes g w.begun.started v.came)) (subst (λ (l : Ledger). T (is_armed l 1)) e w.woken);
        votes = λ m s b a lo hi f t. subst (λ (l : Ledger). T (has (cell_at l s m) b)) e (w.votes m s b a lo hi f (cast_told stakes genesis live lives seen_life m s b a t));
      }

  module _ (u s : ℕ) (lo : 1 ≤ s) (top : s ≤ last_slot) where
    decided : watch.DecidedEverywhere stakes genesis live fed u s → Decided stakes live lives u s
    decided (watch.notarized b some at seen) =
        notarized b some
        (λ n a. let l = seen_life n a in gives_three stakes n (genesis n) (start_sized stakes n (genesis n) l.started) (lives n) l.lived s b lo top some (at n a))
        (λ g v w. gives_three stakes (length stakes) g (watch_sized stakes g w.begun.started) v w.begun.lived s b lo top some (seen g v.came (watcher_mail u g v w)))
    decided (watch.skipped_over at seen) =
        skipped_over
        (λ n a. let l = seen_life n a in gives_four stakes n (genesis n) (start_sized stakes n (genesis n) l.started) (lives n) l.lived s lo top (at n a))
        (λ g v w. gives_four stakes (length stakes) g (watch_sized stakes g w.begun.started) v w.begun.lived s lo top (seen g v.came (watcher_mail u g v w)))

-- ---- stake

pub twenty_and_twenty : TwentyAndTwenty
twenty_and_twenty stakes genesis honest live lives ring sub few =
    let e = leans.twenty_and_twenty stakes genesis honest live (λ n. (lives n).came) (book_ring stakes genesis honest lives ring) sub few in
    record { honest_too = sub; heavy = e.heavy }

-- Live stake is for a block or against it.
covered : (stakes : List ℕ) (live : Test) (lives : Lives) (s b : ℕ) → weight stakes (length stakes) live ≤ live_notar stakes live lives s b + live_others stakes live lives s b
covered stakes live lives s b =
    weight_cover stakes (length stakes) live (λ n. live n && told_ballot lives n s (notar b)) (λ n. live n && not (told_ballot lives n s (notar b)))
    (λ n t. split (live n) (told_ballot lives n s (notar b)) t)

pub over_eighty_leans : OverEightyLeans
over_eighty_leans stakes live lives heavy u n s b lo hi all a t =
    let out = live_others stakes live lives s b in
    let total = total_to stakes (length stakes) in
    by_test (leb (5 * out) (2 * total))
    (λ x. let y = leb→le (5 * out) (2 * total) x in outright (omega (arith, heavy, covered stakes live lives s b, y)))
    (λ x. outvoted (nleb→lt (5 * out) (2 * total) x))

pub nobody_stopped : NobodyStopped
nobody_stopped stakes genesis honest lives ring u mail =
    let k = length stakes in
    let heavy = honest_heavy stakes honest ring.nodes.few in (
      record { honest_too = λ n h. h; heavy = omega (arith, heavy) },
      record {
        woken = mail.woken;
        votes = mail.votes;
        initial = mail.initial;
        blocks = λ n m s b p x h g hi all nf v t w. mail.blocks n m s b p x h g hi nf v t
            (le_reaches 2 (total_to stakes k) (live_notar stakes honest lives s b) (omega (arith, heavy, w, covered stakes honest lives s b)));
      },
      over_eighty_leans stakes honest lives heavy u,
    )

-- ---- the promises

pub live_never_hang : LiveNeverHang
live_never_hang stakes genesis honest live lives ring enough u last mail lean s lo hi =
    let sub = enough.honest_too in
    let r = book_ring stakes genesis honest lives ring in
    let e : book.LiveEnough stakes genesis honest live (λ n. (lives n).came) = record { honest_too = sub; heavy = enough.heavy } in
    let m = mail_down stakes genesis honest live lives ring sub u mail in
    let l = lean_down stakes genesis honest live lives ring sub u lean in
    record {
      armed = λ n a. back stakes genesis honest live lives ring sub (λ l. T (is_armed l s)) n a ((alive.live_never_hang stakes genesis honest live (λ n. (lives n).came) r e u last m l s lo hi).armed n a);
      decided = decided stakes genesis honest live lives ring sub u s lo (omega arith) (alive.live_watchers_decide stakes genesis honest live (λ n. (lives n).came) r e u last m l s lo hi);
    }

pub live_next_window : LiveNextWindow
live_next_window stakes genesis honest live lives ring enough u last mail lean f n a =
    let sub = enough.honest_too in
    back stakes genesis honest live lives ring sub (λ l. T (is_armed l (suc u))) n a
    (alive.live_next_window stakes genesis honest live (λ n. (lives n).came) (book_ring stakes genesis honest lives ring) (record { honest_too = sub; heavy = enough.heavy }) u last
    (mail_down stakes genesis honest live lives ring sub u mail) (lean_down stakes genesis honest live lives ring sub u lean) f n a)

pub live_watchers_arm : LiveWatchersArm
live_watchers_arm stakes genesis honest live lives ring enough u last mail lean g v w s lo hi top =
    let sub = enough.honest_too in
    subst (λ (l : Ledger). T (is_armed l s)) (sym w.begun.lived.ledger)
    (alive.live_watchers_arm stakes genesis honest live (λ n. (lives n).came) (book_ring stakes genesis honest lives ring) (record { honest_too = sub; heavy = enough.heavy }) u last
    (mail_down stakes genesis honest live lives ring sub u mail) (lean_down stakes genesis honest live lives ring sub u lean) g v.came
    (watcher_mail stakes genesis honest live lives ring sub u g v w) s lo hi top)

pub one_block_leans : OneBlockLeans
one_block_leans stakes genesis honest live lives ring enough u one =
    let sub = enough.honest_too in
    lean_up stakes genesis honest live lives ring sub u
    (leans.one_block_leans stakes genesis honest live (λ n. (lives n).came) (book_ring stakes genesis honest lives ring) (record { honest_too = sub; heavy = enough.heavy }) u
    (one_down stakes genesis honest live lives ring sub u one))

pub echoes_leave_one : EchoesLeaveOne
echoes_leave_one stakes genesis honest live lives ring sub u echoed e =
    one_up stakes genesis honest live lives ring sub u
    (leans.echoes_leave_one stakes genesis honest live (λ n. (lives n).came) (book_ring stakes genesis honest lives ring) u echoed
    (record {
      once = e.once;
      set = e.set;
      heavy = e.heavy;
      heard = λ n s b m a lo hi t. e.heard n s b m a lo hi (cast_told stakes genesis live lives (seen_life stakes genesis honest live lives ring sub) n s (notar b) a t);
    }))

pub fifth_stopped : FifthStopped
fifth_stopped stakes genesis honest live lives ring sub few u last mail one =
    let enough = twenty_and_twenty stakes genesis honest live lives ring sub few in
    live_never_hang stakes genesis honest live lives ring enough u last mail (one_block_leans stakes genesis honest live lives ring enough u one)
