-- Feeding live nodes ends: a round in which none of them makes a record feeds all that is due at its end. And it can always be done.
use Rattle.std.specs.Prelude.{Ok}
use mathlib.Core.Path.{◌≡◌, sym, subst}
use mathlib.Core.Bool.{Bool, not, ◌&&◌}
use mathlib.Core.List.{List, ◌++◌}
use Prim.Native.Nat.{ℕ, suc, ◌≤◌}
use native.Mathlib.Omega.{arith}
use lib.Dec.{T}
use lib.ListN.{length}
use Rattle.rulebook.specs.Weights.{last_slot}
use Rattle.rulebook.specs.Ledger.{fresh, cell_at, own_cell, no_initial}
use Rattle.rulebook.specs.Rules.{fallback_weights}
use Rattle.rulebook.specs.Inputs.{start_verdict}
use Rattle.rulebook.specs.Taking.{Arrival}
use Rattle.safety.specs.Slot.{Test, Ballot, notar, skip}
use Rattle.safety.specs.Ballots.{has}
use Rattle.safety.specs.Ring.{life, cast_by, Ring}
use Rattle.safety.proofs.Tests.{and_t, T_and, T-right}
use Rattle.safety.proofs.Weighing.{weight_mono}
use Rattle.safety.proofs.Promises.{mail_is_enough}
use Rattle.chain.specs.OneChain.{OneParent}
use Rattle.chain.proofs.Chains.{arrivals_are_enough}
use Rattle.mail.specs.Mail.{timed_out_in}
use Rattle.mail.proofs.Rounds.{Quiet, quiet, cast_same, cast_before, initial_before, armed_before, kept_before}
use Rattle.mail.proofs.Feeding.{mid, Sane, mid_ring, next_woken, next_votes, next_timed, mid_pool, next_blocks, rounds, rounds_sane, since, rounds_on, all_since, rounds_all, none_since, rounds_source}
use Rattle.stopped.specs.Stopped.{live_others, LiveEnough, LiveMailIn, AllLean}
use Rattle.stopped.proofs.Alive.{live_never_hang}
use Rattle.stopped.proofs.Leans.{twenty_and_twenty, over_eighty_leans, honest_heavy, one_block_leans, fifth_stopped}
use Rattle.stopped_mail.specs.Fed.{LiveAsked, LiveMailFed, OneAnnounced}
use Rattle.stopped_mail.specs.Rounds.{LiveRounds, LiveGoes, LiveFeedingEnds, LiveRoundsDecide, LiveNoRingStuck, FifthNotStuck, NobodyStuck}
use Rattle.stopped_mail.proofs.Fed.{asked_fits, live_mail_fed_is_enough, lean_weights, live_weighs, one_announced_is_one}

-- Live nodes whose lives go on in rounds.
module _ (stakes : List ℕ) (genesis : ℕ → ℕ) (honest live : Test) (fed more : ℕ → ℕ → List Arrival) (go_on : (k n : ℕ) → fed (suc k) n ≡ fed k n ++ more k n)
    (started : (n : ℕ) → T (live n) → start_verdict stakes n (genesis n) ≡ Ok tt) where
  abbrev still : Quiet stakes genesis live fed more go_on started
  still = quiet stakes genesis live fed more go_on started

  -- The round in which none of them makes a record.
  abbrev calm : ℕ
  calm = still.at

  before : (n s : ℕ) (v : Ballot) → T (live n) → T (cast_by stakes genesis honest (fed (suc calm)) n s v) → T (cast_by stakes genesis honest (fed calm) n s v)
  before = cast_before stakes genesis live fed more go_on started calm still.same

  others_before : (s b : ℕ) → live_others stakes genesis honest live (fed calm) s b ≤ live_others stakes genesis honest live (fed (suc calm)) s b
  others_before s b =
      weight_mono stakes (length stakes) (λ n. live n && not (cast_by stakes genesis honest (fed calm) n s (notar b))) (λ n. live n && not (cast_by stakes genesis honest (fed (suc calm)) n s (notar b)))
      (λ n t. let z = and_t (live n) (not (cast_by stakes genesis honest (fed calm) n s (notar b))) t in
      T_and (live n) (not (cast_by stakes genesis honest (fed (suc calm)) n s (notar b))) z.0
      (subst (λ (c : Bool). T (not c)) (sym (cast_same stakes genesis live fed more go_on started calm still.same n s (notar b) z.0)) z.1))

  -- No block is newly asked for.
  asked_before : (n s b p x : ℕ) → LiveAsked stakes genesis honest live (fed (suc calm)) n s b p x → LiveAsked stakes genesis honest live (fed calm) n s b p x
  asked_before n s b p x a =
      let c = before n s (notar b) a.voter a.voted in
      record {
        next = a.next;
        all_voted = λ m l. initial_before stakes genesis live fed more go_on started calm still.same m s l (a.all_voted m l);
        voter = a.voter;
        voted = c;
        kept = kept_before stakes genesis live fed more go_on started calm still.same n s b p x a.voter a.next c a.kept;
        few = omega (arith, a.few, others_before s b);
      }

module _ (stakes : List ℕ) (genesis : ℕ → ℕ) (honest live : Test) (fed : ℕ → ℕ → List Arrival) (u : ℕ) (r : LiveRounds stakes genesis honest live fed u) where
  abbrev begun : (n : ℕ) → T (live n) → start_verdict stakes n (genesis n) ≡ Ok tt
  begun n a = (r.ring 0).started n (r.honest_too n a)

  abbrev pause : Quiet stakes genesis live fed r.more r.go_on begun
  pause = still stakes genesis honest live fed r.more r.go_on begun

  abbrev at : ℕ
  at = pause.at

  -- All that is due at its end was fed in it.
  quiet_fed : LiveMailFed stakes genesis honest live (fed (suc at)) u
  quiet_fed =
      record {
        woken = r.woken at;
        votes = λ n m s v h g ne lo hi nf t. r.votes at n m s v h g ne lo hi nf (before stakes genesis honest live fed r.more r.go_on begun m s v g t);
        timeouts = λ n s h lo hi t. r.timeouts at n s h lo hi (armed_before stakes genesis live fed r.more r.go_on begun at pause.same n s h t);
        blocks = λ n m s b p x g hi a. r.blocks at n m s b p x g hi (asked_before stakes genesis honest live fed r.more r.go_on begun n s b p x a);
        policy = r.policy (suc at);
      }

pub live_feeding_ends : LiveFeedingEnds
live_feeding_ends stakes genesis honest live fed u last r =
    let k = at stakes genesis honest live fed u r in
    record {
      round = suc k;
      soon = omega (arith, (pause stakes genesis honest live fed u r).soon);
      mail = live_mail_fed_is_enough stakes genesis honest live (fed (suc k)) (r.ring (suc k)) (r.one_parent (suc k)) r.honest_too u last
          (quiet_fed stakes genesis honest live fed u r);
    }

pub live_rounds_decide : LiveRoundsDecide
live_rounds_decide stakes genesis honest live fed u last r few one =
    let e = live_feeding_ends stakes genesis honest live fed u last r in
    record {
      round = e.round;
      soon = e.soon;
      going = λ s. fifth_stopped stakes genesis honest live (fed e.round) (r.ring e.round) r.honest_too few u last e.mail (one e.round) s;
    }

-- ---- and it can be done

module _ (stakes : List ℕ) (genesis : ℕ → ℕ) (honest live : Test) (fed : ℕ → List Arrival) (enough : LiveEnough stakes genesis honest live fed)
    (sane : Sane stakes genesis honest live enough.honest_too fed) where
  abbrev sub : (n : ℕ) → T (live n) → T (honest n)
  sub = enough.honest_too

  -- The rounds that can be fed.
  abbrev onward : ℕ → ℕ → List Arrival
  onward = rounds stakes genesis honest live sub fed sane

  abbrev safely : (k : ℕ) → Sane stakes genesis honest live sub (onward k)
  safely = rounds_sane stakes genesis honest live sub fed sane

  abbrev each : ℕ → ℕ → List Arrival
  each = since stakes genesis honest live sub fed sane

  abbrev on : (k n : ℕ) → onward (suc k) n ≡ onward k n ++ each k n
  on = rounds_on stakes genesis honest live sub fed sane

  abbrev from : (n : ℕ) → T (live n) → start_verdict stakes n (genesis n) ≡ Ok tt
  from n a = sane.ring.started n (sub n a)

  abbrev hush : Quiet stakes genesis live onward each on from
  hush = still stakes genesis honest live onward each on from

  abbrev end : ℕ
  end = hush.at

  abbrev arrived : ℕ → List Arrival
  arrived = onward (suc end)

  abbrev whole : Ring stakes genesis honest arrived × OneParent stakes genesis honest arrived
  whole = arrivals_are_enough stakes genesis honest arrived (safely (suc end)).ring (safely (suc end)).once

  was : (n s : ℕ) (v : Ballot) → T (live n) → T (cast_by stakes genesis honest arrived n s v) → T (cast_by stakes genesis honest (onward end) n s v)
  was = before stakes genesis honest live onward each on from

  -- In the round in which no record is made a block that is asked for has rule D's weights when the blocks come, where the votes lean.
  asked_weighs : AllLean stakes genesis honest live arrived last_slot → (n m s b p x : ℕ) → T (live m) → s ≤ last_slot → LiveAsked stakes genesis honest live arrived n s b p x
      → T (fallback_weights (life stakes genesis honest (mid stakes genesis honest live sub (onward end)) m) s b)
  asked_weighs leans n m s b p x k hi a =
      let mids = mid stakes genesis honest live sub (onward end) in
      let lo = (asked_fits stakes genesis honest live arrived whole.0 sub n s b p x 0 whole.1 a).0 in
      let stands : (i : ℕ) (v : Ballot) → T (live i && cast_by stakes genesis honest arrived i s v) → T (has (cell_at (life stakes genesis honest mids m) s i) v) =
      (λ i v t. let z = and_t (live i) (cast_by stakes genesis honest arrived i s v) t in
      mid_pool stakes genesis honest live sub (onward end) (safely end) m i s v k z.0 lo hi (was i s v z.0 z.1)) in
      live_weighs stakes genesis honest mids (mail_is_enough stakes genesis honest mids (mid_ring stakes genesis honest live sub (onward end) (safely end))) m s b (sub m k)
      (λ i. live i && cast_by stakes genesis honest arrived i s (notar b)) (λ i. live i && cast_by stakes genesis honest arrived i s skip)
      (lean_weights stakes genesis honest live arrived s b a.few (leans n s b lo hi a.all_voted a.voter a.voted))
      (λ i. stands i (notar b)) (λ i. stands i skip)

  -- So all that is due at its end was fed in it.
  onward_fed : AllLean stakes genesis honest live arrived last_slot → LiveMailFed stakes genesis honest live arrived last_slot
  unfolding rounds
  onward_fed leans =
      record {
        woken = next_woken stakes genesis honest live sub (onward end) (safely end);
        votes = λ n m s v h g ne lo hi nf t. next_votes stakes genesis honest live sub (onward end) (safely end) n m s v h g ne (was m s v g t);
        timeouts = λ n s h lo hi t. T-right (not (no_initial (own_cell (life stakes genesis honest arrived n) s))) (timed_out_in (fresh stakes n (genesis n)) (arrived n) s)
            (next_timed stakes genesis honest live sub (onward end) (safely end) n s h lo hi (armed_before stakes genesis live onward each on from end hush.same n s h t));
        blocks = λ n m s b p x g hi a. next_blocks stakes genesis honest live sub (onward end) (safely end) n m s b p x a.voter g hi
            (asked_before stakes genesis honest live onward each on from n s b p x a).kept (asked_weighs leans n m s b p x g hi a);
        policy = (safely (suc end)).policy;
      }

  mail_in : AllLean stakes genesis honest live arrived last_slot → LiveMailIn stakes genesis honest live arrived last_slot
  mail_in leans = live_mail_fed_is_enough stakes genesis honest live arrived whole.0 whole.1 sub last_slot (omega arith) (onward_fed leans)

  goes : LiveGoes stakes genesis honest live fed
  goes =
      record {
        arrived = arrived;
        later = all_since stakes genesis honest live sub fed sane (suc end);
        go_on = rounds_all stakes genesis honest live sub fed sane (suc end);
        others = none_since stakes genesis honest live sub fed sane (suc end);
        ring = whole.0;
        announced = rounds_source stakes genesis honest live sub fed sane (suc end);
        mail = mail_in;
        going = λ leans. live_never_hang stakes genesis honest live arrived whole.0 (record { honest_too = sub; heavy = enough.heavy }) last_slot (omega arith)
            (mail_in leans) leans;
      }

pub live_no_ring_stuck : LiveNoRingStuck
live_no_ring_stuck stakes genesis honest live fed ring once enough policy = goes stakes genesis honest live fed enough (record { ring = ring; once = once; policy = policy })

pub fifth_not_stuck : FifthNotStuck
fifth_not_stuck stakes genesis honest live fed ring once sub few policy one =
    let r = (arrivals_are_enough stakes genesis honest fed ring once).0 in
    let enough = twenty_and_twenty stakes genesis honest live fed r sub few in
    let g = live_no_ring_stuck stakes genesis honest live fed ring once enough policy in
    let still_one : OneAnnounced stakes genesis honest live g.arrived last_slot = (λ n m s b c p x q y h k lo hi t u.
    let a = g.announced n s b p x h t in
    let d = g.announced m s c q y k u in
    one a.0 d.0 s b c p x q y a.1 d.1 lo hi a.2 d.2) in
    record {
      arrived = g.arrived;
      later = g.later;
      go_on = g.go_on;
      going = g.going (one_block_leans stakes genesis honest live g.arrived g.ring (record { honest_too = sub; heavy = enough.heavy }) last_slot
          (one_announced_is_one stakes genesis honest live g.arrived g.ring sub last_slot still_one));
    }

pub nobody_stuck : NobodyStuck
nobody_stuck all stakes genesis honest fed ring once policy =
    let heavy = honest_heavy stakes honest ring.few in
    let g = all stakes genesis honest honest fed ring once (record { honest_too = λ n h. h; heavy = omega (arith, heavy) }) policy in
    record {
      arrived = g.arrived;
      later = g.later;
      go_on = g.go_on;
      going = g.going (over_eighty_leans stakes genesis honest honest g.arrived heavy last_slot);
    }
