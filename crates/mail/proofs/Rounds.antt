-- Feeding ends: a round in which no node that is fed makes a record finds cast, armed and asked what was so before it, and feeds all of it.
use Rattle.std.specs.Prelude.{Ok}
use mathlib.Core.Path.{◌≡◌, refl, sym, ap, ◌∙◌, subst}
use mathlib.Core.Bool.{Bool, true, false, not, ◌&&◌}
use mathlib.Core.List.{List, [], ◌∷◌, ◌++◌, append-nil}
use Prim.Native.Nat.{ℕ, zero, suc, ◌+◌, ◌*◌, ◌≤◌, ◌<◌}
use native.Mathlib.Omega.{arith}
use native.Mathlib.Decide.{ℕ_discrete}
use lib.Dec.{T, eqb_refl}
use lib.ListN.{length, get_or, length-append}
use Rattle.rulebook.specs.declared.Cell.{Cell}
use Rattle.rulebook.specs.Tools.{part, sum_to}
use Rattle.rulebook.specs.Weights.{places_for, total_to, window_of, is_first}
use Rattle.rulebook.specs.Ledger.{Ledger, none, fresh, cell_at, own_cell, no_initial, is_armed}
use Rattle.rulebook.specs.Rules.{Record}
use Rattle.rulebook.specs.Run.{most_records}
use Rattle.rulebook.specs.Inputs.{start_verdict}
use Rattle.rulebook.specs.Taking.{Arrival, served}
use Rattle.rule_laws.proofs.ToolLaws.{part_on, sum_same, sum_le, sum_add, sum_const, sum_term}
use Rattle.settling.specs.Facts.{Sound}
use Rattle.settling.specs.Steps as calls
use Rattle.settling.proofs.Start.{fresh_sound, start_within}
use Rattle.settling.proofs.Life.{served_paid}
use Rattle.safety.specs.Slot.{Test, Ballot, notar, skip}
use Rattle.safety.specs.Ballots.{has, record_for, among}
use Rattle.safety.specs.Ring.{after_all, life, cast_by}
use Rattle.safety.proofs.Tests.{T_true, and_t, T_and, or_t}
use Rattle.safety.proofs.Weighing.{reaches_more, weight_mono}
use Rattle.safety.proofs.Cells.{initial_cases, notar_present, skip_present, is_notar, notar_some}
use Rattle.safety.proofs.Growing.{Grow}
use Rattle.safety.proofs.Steps.{Ready}
use Rattle.safety.proofs.Lives.{life_ready, life_stored, life_told, life_grow, life_on, fresh_has, start_in, start_sized, fresh_ready}
use Rattle.chain.specs.OneChain.{kept_by}
use Rattle.progress.specs.Progress.{honest_stake}
use Rattle.progress.proofs.Ends.{parents_alone}
use Rattle.progress.proofs.NeverHangs.{never_hangs}
use Rattle.mail.specs.Host.{Asked, MailFed}
use Rattle.mail.specs.Rounds.{Rounds, FeedingEnds, RoundsDecide}
use Rattle.mail.proofs.Host.{mail_fed_is_enough}
use Rattle.mail.proofs.Quiet.{made_among, life_both, life_armed}

-- ---- a count that does not fall and is bounded stands still somewhere

record Steady (f : ℕ → ℕ) (most : ℕ) : Type 0 where
  pub at : ℕ
  pub soon : at ≤ most
  pub same : f (suc at) ≡ f at

steady_from : (f : ℕ → ℕ) (most : ℕ) → ((k : ℕ) → f k ≤ f (suc k)) → ((k : ℕ) → f k ≤ most) → (fuel k : ℕ) → k ≤ f k → most < k + fuel → Steady f most
steady_from f most up top zero k low high = absurd (omega (arith, top k))
steady_from f most up top (suc fuel) k low high =
    elim (ℕ_discrete (f (suc k)) (f k)) [
      | yes e ↦ record { at = k; soon = omega (arith, top k); same = e }
      | no ne ↦ steady_from f most up top fuel (suc k) (omega (arith, ne, up k)) (omega arith)
    ]

steady : (f : ℕ → ℕ) (most : ℕ) → ((k : ℕ) → f k ≤ f (suc k)) → ((k : ℕ) → f k ≤ most) → Steady f most
steady f most up top = steady_from f most up top (suc most) 0 (omega arith) (omega arith)

part_add : (b : Bool) (x y : ℕ) → part b (x + y) ≡ part b x + part b y
unfolding part
part_add true x y = refl
part_add false x y = refl

part_few : (b : Bool) (x m : ℕ) → (T b → x ≤ m) → part b x ≤ m
unfolding part
part_few true x m f = f tt
part_few false x m f = omega arith

empty : (rs : List Record) → length rs ≡ 0 → rs ≡ []
empty [] e = refl
empty (r ∷ rs) e = absurd (omega (arith, e))

pub after_sound : (l : Ledger) (is : List Arrival) → Sound l → Sound (after_all l is)
unfolding after_all
after_sound l [] h = h
after_sound l (i ∷ is) h = after_sound (served l i).ledger is (served_paid l h i).sound

-- Lives that go on in rounds, of any nodes whose starts were accepted.
module _ (stakes : List ℕ) (genesis : ℕ → ℕ) (nodes : Test) (fed more : ℕ → ℕ → List Arrival) (go_on : (k n : ℕ) → fed (suc k) n ≡ fed k n ++ more k n)
    (started : (n : ℕ) → T (nodes n) → start_verdict stakes n (genesis n) ≡ Ok tt) where
  abbrev start : ℕ → Ledger
  start n = fresh stakes n (genesis n)

  abbrev end : ℕ → ℕ → Ledger
  end k n = life stakes genesis nodes (fed k) n

  abbrev count : ℕ
  count = length stakes

  ready : (n : ℕ) → T (nodes n) → Ready (places_for count) n (start n)
  ready n h = fresh_ready stakes n (genesis n) (start_sized stakes n (genesis n) (started n h))

  end_ready : (k n : ℕ) → T (nodes n) → Ready (places_for count) n (end k n)
  end_ready k n h = life_ready n (start n) (fed k n) (ready n h)

  -- ---- records

  abbrev records : ℕ → ℕ → List Record
  records k n = calls.life (start n) (fed k n)

  -- Those of a round.
  abbrev extra : ℕ → ℕ → List Record
  extra k n = calls.life (end k n) (more k n)

  records_more : (k n : ℕ) → records (suc k) n ≡ records k n ++ extra k n
  records_more k n = ap (calls.life (start n)) (go_on k n) ∙ life_both (start n) (fed k n) (more k n)

  -- All records of these nodes.
  abbrev told : ℕ → ℕ
  told k = sum_to count (λ n. part (nodes n) (length (records k n)))

  abbrev added : ℕ → ℕ
  added k = sum_to count (λ n. part (nodes n) (length (extra k n)))

  told_more : (k : ℕ) → told (suc k) ≡ told k + added k
  told_more k =
      sum_same count (λ n. part (nodes n) (length (records (suc k) n))) (λ n. part (nodes n) (length (records k n)) + part (nodes n) (length (extra k n)))
      (λ n h. ap (λ (rs : List Record). part (nodes n) (length rs)) (records_more k n)
      ∙ (ap (part (nodes n)) (length-append (records k n) (extra k n)) ∙ part_add (nodes n) (length (records k n)) (length (extra k n))))
      ∙ sym (sum_add count (λ n. part (nodes n) (length (records k n))) (λ n. part (nodes n) (length (extra k n))))

  told_few : (k : ℕ) → told k ≤ most_records * count
  told_few k =
      let each = sum_le count (λ n. part (nodes n) (length (records k n))) (λ _. most_records)
      (λ n h. part_few (nodes n) (length (records k n)) most_records (λ t. start_within stakes n (genesis n) (started n t) (fed k n))) in
      omega (arith, each, sum_const count most_records)

  -- Within 132 rounds for each node there is one in which none of them makes a record.
  pub record Quiet : Type 0 where
    pub at : ℕ
    pub soon : at ≤ most_records * count
    pub same : told (suc at) ≡ told at

  pub quiet : Quiet
  quiet = let q = steady told (most_records * count) (λ k. omega (arith, told_more k)) told_few in record { at = q.at; soon = q.soon; same = q.same }

  -- ---- such a round

  module _ (k : ℕ) (still : told (suc k) ≡ told k) where
    no_extra : (n : ℕ) → T (nodes n) → extra k n ≡ []
    no_extra n h =
        let one = sum_term count n (λ n. part (nodes n) (length (extra k n))) (start_in stakes n (genesis n) (started n h)) in
        empty (extra k n) (omega (arith, one, still, told_more k, part_on (nodes n) (length (extra k n)) (T_true (nodes n) h)))

    records_same : (n : ℕ) → T (nodes n) → records (suc k) n ≡ records k n
    records_same n h = records_more k n ∙ (ap (λ (rs : List Record). records k n ++ rs) (no_extra n h) ∙ append-nil (records k n))

    -- Nothing new is cast;
    pub cast_same : (n s : ℕ) (v : Ballot) → T (nodes n) → cast_by stakes genesis nodes (fed (suc k)) n s v ≡ cast_by stakes genesis nodes (fed k) n s v
    cast_same n s v h =
        made_among (start n) (fed (suc k) n) (record_for s v)
        ∙ (ap (λ (rs : List Record). among rs (record_for s v)) (records_same n h) ∙ sym (made_among (start n) (fed k n) (record_for s v)))

    pub cast_before : (n s : ℕ) (v : Ballot) → T (nodes n) → T (cast_by stakes genesis nodes (fed (suc k)) n s v) → T (cast_by stakes genesis nodes (fed k) n s v)
    cast_before n s v h t = subst (λ (b : Bool). T b) (cast_same n s v h) t

    -- so no initial vote is new;
    pub initial_before : (n s : ℕ) → T (nodes n) → T (not (no_initial (own_cell (end (suc k) n) s))) → T (not (no_initial (own_cell (end k n) s)))
    initial_before n s h t =
        let mine : (j : ℕ) → own_cell (end j n) s ≡ cell_at (end j n) s n = λ j. ap (λ (i : ℕ). cell_at (end j n) s i) (end_ready j n h).own in
        let c = cell_at (end (suc k) n) s n in
        let stood : (v : Ballot) → T (has c v) → T (has (cell_at (end k n) s n) v) = λ v z.
        life_stored n (start n) (fed k n) (ready n h) s v (cast_before n s v h
        (or_t (cast_by stakes genesis nodes (fed (suc k)) n s v) (has (cell_at (start n) s n) v) (life_told n (start n) (fed (suc k) n) (ready n h) s v z)
        (λ u. u) (λ u. absurd (fresh_has stakes n (genesis n) s n v u)))) in
        subst (λ (d : Cell). T (not (no_initial d))) (sym (mine k))
        (initial_cases c (subst (λ (d : Cell). T (not (no_initial d))) (mine (suc k)) t)
        (λ z. notar_present (cell_at (end k n) s n) (notar_some (cell_at (end k n) s n) c.notar (stood (notar c.notar) (is_notar c c.notar z (eqb_refl c.notar)))))
        (λ z. skip_present (cell_at (end k n) s n) (stood skip z)))

    end_on : (n : ℕ) → end (suc k) n ≡ after_all (end k n) (more k n)
    end_on n = ap (after_all (start n)) (go_on k n) ∙ life_on (start n) (fed k n) (more k n)

    -- no window is armed;
    pub armed_before : (n s : ℕ) → T (nodes n) → T (is_armed (end (suc k) n) s) → T (is_armed (end k n) s)
    armed_before n s h t =
        let sound = after_sound (start n) (fed k n) (fresh_sound stakes n (genesis n) (started n h)) in
        let e : (end (suc k) n).armed ≡ (end k n).armed = ap (λ (l : Ledger). l.armed) (end_on n) ∙ life_armed (end k n) (more k n) sound (ap length (no_extra n h)) in
        subst (λ (ws : List ℕ). T (not (none (get_or ws (window_of s) 0)))) e t

    -- and a block for which a node voted was kept before, with the parent that it is kept with.
    pub kept_before : (n s b p x : ℕ) → T (nodes n) → T (not (is_first s)) → T (cast_by stakes genesis nodes (fed k) n s (notar b))
        → T (kept_by stakes genesis nodes (fed (suc k)) n s b p x) → T (kept_by stakes genesis nodes (fed k) n s b p x)
    kept_before n s b p x h nf c t =
        let r = end_ready k n h in
        let v = (r.inv.grounds s (notar b) (life_stored n (start n) (fed k n) (ready n h) s (notar b) c)).next nf in
        let on = (subst (λ (l : Ledger). Grow (end k n) l) (sym (end_on n)) (life_grow n (end k n) (more k n) r)).blocks s b v.slot v.parent v.kept in
        let e = parents_alone stakes n (genesis n) (started n h) (fed (suc k) n) s b v.slot v.parent p x on t in
        subst (λ (q : ℕ). T (kept_by stakes genesis nodes (fed k) n s b q x)) e.0
        (subst (λ (y : ℕ). T (kept_by stakes genesis nodes (fed k) n s b v.slot y)) e.1 v.kept)

-- ---- the honest nodes of a ring

module _ (stakes : List ℕ) (genesis : ℕ → ℕ) (honest : Test) (fed : ℕ → ℕ → List Arrival) (u : ℕ) (r : Rounds stakes genesis honest fed u) where
  abbrev started : (n : ℕ) → T (honest n) → start_verdict stakes n (genesis n) ≡ Ok tt
  started = (r.ring 0).started

  abbrev still : Quiet stakes genesis honest fed r.more r.go_on started
  still = quiet stakes genesis honest fed r.more r.go_on started

  -- The round in which none of them makes a record.
  abbrev calm : ℕ
  calm = still.at

  before : (n s : ℕ) (v : Ballot) → T (honest n) → T (cast_by stakes genesis honest (fed (suc calm)) n s v) → T (cast_by stakes genesis honest (fed calm) n s v)
  before = cast_before stakes genesis honest fed r.more r.go_on started calm still.same

  stake_before : (s b : ℕ) → honest_stake stakes genesis honest (fed (suc calm)) s b ≤ honest_stake stakes genesis honest (fed calm) s b
  stake_before s b =
      weight_mono stakes (length stakes) (λ n. honest n && cast_by stakes genesis honest (fed (suc calm)) n s (notar b)) (λ n. honest n && cast_by stakes genesis honest (fed calm) n s (notar b))
      (λ n t. let z = and_t (honest n) (cast_by stakes genesis honest (fed (suc calm)) n s (notar b)) t in
      T_and (honest n) (cast_by stakes genesis honest (fed calm) n s (notar b)) z.0 (before n s (notar b) z.0 z.1))

  -- No block is newly asked for.
  asked_before : (n s b p x : ℕ) → Asked stakes genesis honest (fed (suc calm)) n s b p x → Asked stakes genesis honest (fed calm) n s b p x
  asked_before n s b p x a =
      let h = a.voter in
      let c = before n s (notar b) h a.voted in
      record {
        next = a.next;
        voter = h;
        voted = c;
        kept = kept_before stakes genesis honest fed r.more r.go_on started calm still.same n s b p x h a.next c a.kept;
        heavy = reaches_more 2 (total_to stakes (length stakes)) (honest_stake stakes genesis honest (fed (suc calm)) s b) (honest_stake stakes genesis honest (fed calm) s b)
            (stake_before s b) a.heavy;
      }

  -- So all that is due at its end was fed in it.
  quiet_fed : MailFed stakes genesis honest (fed (suc calm)) u
  quiet_fed =
      record {
        woken = r.woken calm;
        votes = λ n m s v h g ne lo hi nf t. r.votes calm n m s v h g ne lo hi nf (before m s v g t);
        timeouts = λ n s h lo hi t. r.timeouts calm n s h lo hi (armed_before stakes genesis honest fed r.more r.go_on started calm still.same n s h t);
        blocks = λ n m s b p x g hi a. r.blocks calm n m s b p x g hi (asked_before n s b p x a);
        policy = r.policy (suc calm);
      }

pub feeding_ends : FeedingEnds
feeding_ends stakes genesis honest fed u last r =
    let k = calm stakes genesis honest fed u r in
    record {
      round = suc k;
      soon = omega (arith, (still stakes genesis honest fed u r).soon);
      was_fed = quiet_fed stakes genesis honest fed u r;
      mail = mail_fed_is_enough stakes genesis honest (fed (suc k)) (r.ring (suc k)) (r.one_parent (suc k)) u last (quiet_fed stakes genesis honest fed u r);
    }

pub rounds_decide : RoundsDecide
rounds_decide stakes genesis honest fed u last r =
    let e = feeding_ends stakes genesis honest fed u last r in
    record { round = e.round; soon = e.soon; going = λ s. never_hangs stakes genesis honest (fed e.round) (r.ring e.round) u last e.mail s }
