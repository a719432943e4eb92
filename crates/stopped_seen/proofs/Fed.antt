-- What was fed to the live nodes is enough, over seen lives; feeding them ends, and can always be done.
use mathlib.Core.Path.{◌≡◌, sym, ◌∙◌, subst}
use mathlib.Core.List.{List, ◌++◌}
use Prim.Native.Nat.{ℕ, suc}
use native.Mathlib.Omega.{arith}
use lib.Dec.{T}
use Rattle.rulebook.specs.Weights.{last_slot}
use Rattle.rulebook.specs.Ledger.{cell_at, keeps_block}
use Rattle.rulebook.specs.Rules.{fallback_weights}
use Rattle.rulebook.specs.Taking.{Arrival}
use Rattle.safety.specs.Slot.{Test, notar}
use Rattle.safety.specs.Ballots.{has}
use Rattle.safety.specs.Ring.{announced_by}
use Rattle.safety.specs.Ring as safe
use Rattle.stopped.specs.Stopped as bookStopped
use Rattle.stopped.proofs.Leans.{honest_heavy}
use Rattle.stopped_mail.specs.Fed as book
use Rattle.stopped_mail.specs.Rounds as bookRounds
use Rattle.stopped_mail.proofs.Fed as feeding
use Rattle.stopped_mail.proofs.Rounds as rounds
use Rattle.seen.specs.Ring.{Lives, Nodes, Ring}
use Rattle.seen.proofs.Ring.{told_cast, cast_told, book_ring, book_fed_ring, seen_ring}
use Rattle.seen.proofs.Chain.{parents, arrivals_are_enough}
use Rattle.seen.proofs.Fed.{armed_words, initial_or_timed}
use Rattle.stopped_seen.specs.Fed.{LiveAsked, LiveMailFed, LiveMailFedIsEnough, LiveAskedWeigh, OneAnnounced, OneAnnouncedIsOne, FedFifthStopped, LiveRounds, LiveRoundsDecide, LiveNoRingStuck, FifthNotStuck, NobodyStuck}
use Rattle.stopped_seen.proofs.Weights.{others_same, leaning_down}
use Rattle.stopped_seen.proofs.Stopped.{seen_life, to, back, one_up, voted_up, voted_down, lean_down, mail_up, twenty_and_twenty, over_eighty_leans, live_never_hang, one_block_leans, fifth_stopped}

module _ (stakes : List ℕ) (genesis : ℕ → ℕ) (honest live : Test) (lives : Lives) (ring : Ring stakes genesis honest lives) (sub : (n : ℕ) → T (live n) → T (honest n)) where
  abbrev fed : ℕ → List Arrival
  fed n = (lives n).came

  -- What is asked for by the ledgers is asked for by the words, and back.
  asked_up : (n s b p x : ℕ) → book.LiveAsked stakes genesis honest live fed n s b p x → LiveAsked stakes live lives n s b p x
  asked_up n s b p x a =
      let all = seen_life stakes genesis honest live lives ring sub in
      record {
        next = a.next;
        all_voted = voted_up stakes genesis honest live lives ring sub s a.all_voted;
        voter = a.voter;
        voted = cast_told stakes genesis live lives all n s (notar b) a.voter a.voted;
        kept = back stakes genesis honest live lives ring sub (λ l. T (keeps_block l s b p x)) n a.voter a.kept;
        few = omega (arith, a.few, others_same stakes genesis honest live lives all s b);
      }

  asked_down : (n s b p x : ℕ) → LiveAsked stakes live lives n s b p x → book.LiveAsked stakes genesis honest live fed n s b p x
  asked_down n s b p x a =
      let all = seen_life stakes genesis honest live lives ring sub in
      record {
        next = a.next;
        all_voted = voted_down stakes genesis honest live lives ring sub s a.all_voted;
        voter = a.voter;
        voted = told_cast stakes genesis live lives all n s (notar b) a.voter a.voted;
        kept = to stakes genesis honest live lives ring sub (λ l. T (keeps_block l s b p x)) n a.voter a.kept;
        few = omega (arith, a.few, others_same stakes genesis honest live lives all s b);
      }

  mail_fed : (u : ℕ) → LiveMailFed stakes genesis live lives u → book.LiveMailFed stakes genesis honest live fed u
  mail_fed u mail =
      record {
        woken = mail.woken;
        votes = λ n m s v a k ne lo hi f t. mail.votes n m s v a k ne lo hi f (cast_told stakes genesis live lives (seen_life stakes genesis honest live lives ring sub) m s v k t);
        timeouts = λ n s a lo hi t. initial_or_timed stakes genesis honest lives ring n s (sub n a) (mail.timeouts n s a lo hi (armed_words stakes genesis honest lives ring n s (sub n a) t));
        blocks = λ n m s b p x k hi a. mail.blocks n m s b p x k hi (asked_up n s b p x a);
        policy = mail.policy;
      }

pub live_mail_fed_is_enough : LiveMailFedIsEnough
live_mail_fed_is_enough stakes genesis honest live lives ring one sub u last mail =
    mail_up stakes genesis honest live lives ring sub u
    (feeding.live_mail_fed_is_enough stakes genesis honest live (λ n. (lives n).came) (book_ring stakes genesis honest lives ring) (parents stakes genesis honest lives ring.nodes.lived one)
    sub u last (mail_fed stakes genesis honest live lives ring sub u mail))

pub live_asked_weigh : LiveAskedWeigh
live_asked_weigh stakes genesis honest live lives ring sub n m s b p x k a lean pool =
    let all = seen_life stakes genesis honest live lives ring sub in
    back stakes genesis honest live lives ring sub (λ l. T (fallback_weights l s b)) m k
    (feeding.live_asked_weigh stakes genesis honest live (λ n. (lives n).came) (book_ring stakes genesis honest lives ring) sub n m s b p x k
    (asked_down stakes genesis honest live lives ring sub n s b p x a) (leaning_down stakes genesis honest live lives all s b lean)
    (λ i v h t f. to stakes genesis honest live lives ring sub (λ l. T (has (cell_at l s i) v)) m k (pool i v h (cast_told stakes genesis live lives all i s v h t) f)))

pub one_announced_is_one : OneAnnouncedIsOne
one_announced_is_one stakes genesis honest live lives ring sub u one =
    one_up stakes genesis honest live lives ring sub u
    (feeding.one_announced_is_one stakes genesis honest live (λ n. (lives n).came) (book_ring stakes genesis honest lives ring) sub u one)

pub fed_fifth_stopped : FedFifthStopped
fed_fifth_stopped stakes genesis honest live lives fed once sub few u last mail one =
    let r = arrivals_are_enough stakes genesis honest lives fed once in
    fifth_stopped stakes genesis honest live lives r.0 sub few u last (live_mail_fed_is_enough stakes genesis honest live lives r.0 r.1 sub u last mail)
    (one_announced_is_one stakes genesis honest live lives r.0 sub u one)

-- ---- that it ends

module _ (stakes : List ℕ) (genesis : ℕ → ℕ) (honest live : Test) (lives : ℕ → Lives) (u : ℕ) (r : LiveRounds stakes genesis honest live lives u) where
  rounds_fed : bookRounds.LiveRounds stakes genesis honest live (λ k n. (lives k n).came) u
  rounds_fed =
      let sub = r.honest_too in
      record {
        more = λ k n. (r.go_on k n).since;
        go_on = λ k n. (r.go_on k n).goes_on;
        ring = λ k. book_ring stakes genesis honest (lives k) (r.ring k);
        one_parent = λ k. parents stakes genesis honest (lives k) (r.ring k).nodes.lived (r.one_parent k);
        honest_too = sub;
        policy = r.policy;
        woken = r.woken;
        votes = λ k n m s v a g ne lo hi f t. r.votes k n m s v a g ne lo hi f (cast_told stakes genesis live (lives k) (seen_life stakes genesis honest live (lives k) (r.ring k) sub) m s v g t);
        timeouts = λ k n s a lo hi t. initial_or_timed stakes genesis honest (lives (suc k)) (r.ring (suc k)) n s (sub n a)
            (r.timeouts k n s a lo hi (armed_words stakes genesis honest (lives k) (r.ring k) n s (sub n a) t));
        blocks = λ k n m s b p x g hi a. r.blocks k n m s b p x g hi (asked_up stakes genesis honest live (lives k) (r.ring k) sub n s b p x a);
      }

pub live_rounds_decide : LiveRoundsDecide
live_rounds_decide stakes genesis honest live lives u last r few one =
    let e = rounds.live_feeding_ends stakes genesis honest live (λ k n. (lives k n).came) u last (rounds_fed stakes genesis honest live lives u r) in
    let k = e.round in
    record {
      round = k;
      soon = e.soon;
      going = fifth_stopped stakes genesis honest live (lives k) (r.ring k) r.honest_too few u last (mail_up stakes genesis honest live (lives k) (r.ring k) r.honest_too u e.mail) (one k);
    }

-- ---- and it can be done

pub live_no_ring_stuck : LiveNoRingStuck
live_no_ring_stuck stakes genesis honest live lives fed once enough policy =
    let sub = enough.honest_too in
    let g = rounds.live_no_ring_stuck stakes genesis honest live (λ n. (lives n).came) (book_fed_ring stakes genesis honest lives fed) once
    (record { honest_too = sub; heavy = enough.heavy }) policy in
    let same : (after : Lives) → ((n : ℕ) → (after n).came ≡ (lives n).came ++ g.later n) → ◌≡◌ {A = ℕ → List Arrival} g.arrived (λ n. (after n).came) =
    (λ after e i n. (g.go_on n ∙ sym (e n)) i) in
    let whole : (after : Lives) → Nodes stakes genesis honest after → ((n : ℕ) → (after n).came ≡ (lives n).came ++ g.later n) → Ring stakes genesis honest after =
    (λ after nodes e. seen_ring stakes genesis honest after nodes (subst (safe.Ring stakes genesis honest) (same after e) g.ring)) in
    record {
      further = g.later;
      others = g.others;
      ring = whole;
      announced = λ n s b p x h t. g.announced n s b p x h (subst (λ (is : List Arrival). T (announced_by is s b p x)) (sym (g.go_on n)) t);
      going = λ after nodes e leans.
          let r = whole after nodes e in
          let mail = subst (λ (f : ℕ → List Arrival). bookStopped.AllLean stakes genesis honest live f last_slot → bookStopped.LiveMailIn stakes genesis honest live f last_slot)
          (same after e) g.mail (lean_down stakes genesis honest live after r sub last_slot leans) in
          live_never_hang stakes genesis honest live after r enough last_slot (omega arith) (mail_up stakes genesis honest live after r sub last_slot mail) leans;
    }

pub fifth_not_stuck : FifthNotStuck
fifth_not_stuck stakes genesis honest live lives fed once sub few policy one =
    let enough = twenty_and_twenty stakes genesis honest live lives (arrivals_are_enough stakes genesis honest lives fed once).0 sub few in
    let g = live_no_ring_stuck stakes genesis honest live lives fed once enough policy in
    let still_one : (after : Lives) → ((n : ℕ) → (after n).came ≡ (lives n).came ++ g.further n) → OneAnnounced stakes live after last_slot =
    (λ after e n m s b c p x q y h k lo hi t u.
    let a = g.announced n s b p x h (subst (λ (is : List Arrival). T (announced_by is s b p x)) (e n) t) in
    let d = g.announced m s c q y k (subst (λ (is : List Arrival). T (announced_by is s c q y)) (e m) u) in
    one a.0 d.0 s b c p x q y a.1 d.1 lo hi a.2 d.2) in
    record {
      further = g.further;
      others = g.others;
      ring = g.ring;
      going = λ after nodes e.
          let r = g.ring after nodes e in
          g.going after nodes e
          (one_block_leans stakes genesis honest live after r enough last_slot (one_announced_is_one stakes genesis honest live after r sub last_slot (still_one after e)));
    }

pub nobody_stuck : NobodyStuck
nobody_stuck all stakes genesis honest lives fed once policy =
    let heavy = honest_heavy stakes honest fed.nodes.few in
    let g = all stakes genesis honest honest lives fed once (record { honest_too = λ n h. h; heavy = omega (arith, heavy) }) policy in
    record { further = g.further; ring = g.ring; going = λ after nodes e. g.going after nodes e (over_eighty_leans stakes honest after heavy last_slot) }
