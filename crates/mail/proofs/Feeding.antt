-- Feeding can always go on: in each round every live node looks, and is fed the votes that the other live ones cast, the blocks that live nodes
-- keep, as the policy allows, and every slot's timeout. Where every honest node is live every slot is so decided in the end, from any lives of a ring.
use mathlib.Core.Path.{◌≡◌, refl, sym, ap, ◌∙◌, subst}
use mathlib.Core.Bool.{Bool, not, ◌&&◌}
use mathlib.Core.List.{List, [], ◌∷◌, ◌++◌, append_assoc, append-nil}
use mathlib.Core.Logic.{⊎_elim}
use Prim.Native.Nat.{ℕ, zero, suc, ◌≤◌, ◌<◌}
use native.Mathlib.Omega.{arith}
use native.Mathlib.Decide.{ℕ_discrete}
use lib.Dec.{T, eqb, eqb→eq, eqb_refl, not_T}
use lib.ListN.{length, get_or-replicate}
use Rattle.rulebook.specs.declared.Block.{Block}
use Rattle.rulebook.specs.declared.Input.TheVariants as input
use Rattle.rulebook.specs.Certificates.{Certificate}
use Rattle.rulebook.specs.Tools.{whenever}
use Rattle.rulebook.specs.PaperNumbers.{kind_in}
use Rattle.rulebook.specs.Weights.{places_for, last_slot}
use Rattle.rulebook.specs.Ledger.{Ledger, blank_row, no_row, fresh, cell_at, own_cell, no_initial, is_watcher, is_armed, blocks_at, keeps_block}
use Rattle.rulebook.specs.Rules.{Record, fallback_weights}
use Rattle.rulebook.specs.Inputs.{verdict, fed_with, fed_on, feed}
use Rattle.rulebook.specs.Taking.{Arrival, of_input, served}
use Rattle.settling.specs.Steps as calls
use Rattle.settling.proofs.Start.{fresh_sound}
use Rattle.watchers.specs.Watching.{vote_in, as_votes, is_done}
use Rattle.safety.specs.Slot.{Test, Ballot, notar}
use Rattle.safety.specs.Ballots.{has, record_for, brings, announces}
use Rattle.safety.specs.Ring.{after_all, brought_by, announced_by, HandedBy, life, cast_by, Ring, FedRing, ballot_a, ballot_b}
use Rattle.safety.proofs.Tests.{and_t, T_and, or_t, T-left, T-right}
use Rattle.safety.proofs.Growing.{Grow}
use Rattle.safety.proofs.Guards.{given_by}
use Rattle.safety.proofs.Behind.{kept_number}
use Rattle.safety.proofs.Lives.{life_grow, life_on}
use Rattle.safety.proofs.Safety.{in_table_lem, end_ready, end_table, own_stored}
use Rattle.safety.proofs.Promises.{mail_is_enough, kept_blocks_announced}
use Rattle.chain.specs.OneChain.{kept_by, AnnouncedOnce}
use Rattle.chain.proofs.Chains.{arrivals_are_enough}
use Rattle.progress.specs.Progress.{accepted_in}
use Rattle.mail.specs.Mail.{times_out, timed_out_in}
use Rattle.mail.specs.Policy.{by_policy}
use Rattle.mail.specs.Host.{Asked}
use Rattle.mail.specs.Rounds.{Rounds, FeedingGoesOn, NoRingStuck}
use Rattle.mail.proofs.Votes.{fed_is_enough}
use Rattle.mail.proofs.Host.{asked_fits, heavy_weighs}
use Rattle.mail.proofs.Quiet.{made_among}
use Rattle.mail.proofs.Rounds.{after_sound, rounds_decide}
use Rattle.mail.proofs.Arrivals.{any_is, any_left, any_right, any_cases, alone_in, alone_out, alone_none, brought_any, announced_any, gather, gather_in, gather_out, given_in, given_out, given_on, given_off, is_packet, is_block_input, handed_packet, handed_cases, policy_both, policy_other, accepted_both, timed_left, timed_right, made_left, votes_in_lem, votes_out, votes_only}
use Rattle.mail.proofs.Marks.{marked, life_marked, life_clocked}
use Rattle.mail.proofs.Offers.{offered, offered_policy, offered_of, offered_heavy, as_shown, shown_in, shown_out, shown_only}

module _ (stakes : List ℕ) (genesis : ℕ → ℕ) (honest live : Test) (sub : (n : ℕ) → T (live n) → T (honest n)) where
  abbrev Fed : Type 0
  Fed = ℕ → List Arrival

  abbrev start : ℕ → Ledger
  start n = fresh stakes n (genesis n)

  abbrev count : ℕ
  count = length stakes

  -- ---- a round

  -- The votes that live node m cast, for node n.
  abbrev votes_from : Fed → ℕ → ℕ → List Arrival
  votes_from fed n m = whenever (live m && not (eqb m n)) (λ _. as_votes m (calls.life (start m) (fed m))) []

  -- First a look and the votes, for the live nodes: who has stopped is fed nothing.
  abbrev greeting : Fed → ℕ → List Arrival
  greeting fed n = of_input input.Look ∷ gather count (votes_from fed n)

  abbrev opening : Fed → ℕ → List Arrival
  opening fed n = whenever (live n) (λ _. greeting fed n) []

  abbrev pub mid : Fed → Fed
  mid fed n = fed n ++ opening fed n

  -- The blocks that live node m keeps, and all of them.
  abbrev shown_by : Fed → ℕ → List Arrival
  shown_by fed m = whenever (live m) (λ _. gather (suc last_slot) (λ t. as_shown t (blocks_at (life stakes genesis honest fed m) t))) []

  abbrev shown_all : Fed → List Arrival
  shown_all fed = gather count (shown_by fed)

  abbrev clock : ℕ → List Arrival
  clock t = of_input (input.Timeout (record { 0 = t })) ∷ []

  abbrev clocks : List Arrival
  clocks = gather (suc last_slot) clock

  -- Then the blocks and the timeouts.
  abbrev leaving : Fed → ℕ → List Arrival
  leaving fed n = offered (life stakes genesis honest (mid fed) n) (shown_all fed) ++ clocks

  abbrev closing : Fed → ℕ → List Arrival
  closing fed n = whenever (live n) (λ _. leaving fed n) []

  abbrev pub next : Fed → Fed
  next fed n = mid fed n ++ closing fed n

  -- ---- what is in it

  opening_only : (q : Arrival → Bool) (fed : Fed) (n : ℕ) → ¬ T (q (of_input input.Look)) → ((m : ℕ) → ¬ T (any_is q (votes_from fed n m))) → ¬ T (any_is q (opening fed n))
  unfolding any_is
  opening_only q fed n f g t =
      or_t (q (of_input input.Look)) (any_is q (gather count (votes_from fed n))) (given_out q (live n) (greeting fed n) t).1 f
      (λ u. let r = gather_out q count (votes_from fed n) u in g r.0 r.2)

  -- Of votes alone, but for the look.
  opening_votes : (q : Arrival → Bool) (fed : Fed) (n : ℕ) → ¬ T (q (of_input input.Look)) → ((m : ℕ) (r : Record) → ¬ T (q (of_input (input.Vote (vote_in m r))))) → ¬ T (any_is q (opening fed n))
  opening_votes q fed n f g =
      opening_only q fed n f (λ m t. votes_only q m (calls.life (start m) (fed m)) (g m) (given_out q (live m && not (eqb m n)) (as_votes m (calls.life (start m) (fed m))) t).1)

  shown_all_only : (q : Arrival → Bool) (fed : Fed) → ((t : ℕ) (k : Block) → ¬ T (q (of_input (input.Block (record { 0 = t }) k)))) → ¬ T (any_is q (shown_all fed))
  shown_all_only q fed f t =
      let r = gather_out q count (shown_by fed) t in
      let m = r.0 in
      let g = given_out q (live m) (gather (suc last_slot) (λ t. as_shown t (blocks_at (life stakes genesis honest fed m) t))) r.2 in
      let z = gather_out q (suc last_slot) (λ t. as_shown t (blocks_at (life stakes genesis honest fed m) t)) g.1 in
      shown_only q z.0 (blocks_at (life stakes genesis honest fed m) z.0) (f z.0) z.2

  clocks_only : (q : Arrival → Bool) → ((t : ℕ) → ¬ T (q (of_input (input.Timeout (record { 0 = t }))))) → ¬ T (any_is q clocks)
  clocks_only q f t = let r = gather_out q (suc last_slot) clock t in f r.0 (alone_out q (of_input (input.Timeout (record { 0 = r.0 }))) r.2)

  closing_only : (q : Arrival → Bool) (fed : Fed) (n : ℕ) → ((t : ℕ) (k : Block) → ¬ T (q (of_input (input.Block (record { 0 = t }) k))))
      → ((t : ℕ) → ¬ T (q (of_input (input.Timeout (record { 0 = t }))))) → ¬ T (any_is q (closing fed n))
  closing_only q fed n f g t =
      let l = life stakes genesis honest (mid fed) n in
      any_cases q (offered l (shown_all fed)) clocks (given_out q (live n) (leaving fed n) t).1 (λ u. shown_all_only q fed f (offered_of q l (shown_all fed) u)) (clocks_only q g)

  -- A vote in it was cast, and a vote that was cast is in it.
  opening_cast : (fed : Fed) (n m s : ℕ) (v : Ballot) → T (brought_by (opening fed n) s m v) → T (cast_by stakes genesis honest fed m s v)
  unfolding any_is
  opening_cast fed n m s v t =
      let q : Arrival → Bool = λ i. brings i s m v in
      let r = gather_out q count (votes_from fed n) (given_out q (live n) (greeting fed n) (subst (λ (b : Bool). T b) (brought_any (opening fed n) s m v) t)).1 in
      let a = r.0 in
      let g = given_out q (live a && not (eqb a n)) (as_votes a (calls.life (start a) (fed a))) r.2 in
      let o = votes_out a (calls.life (start a) (fed a)) s m v g.1 in
      subst (λ (j : ℕ). T (cast_by stakes genesis honest fed j s v)) o.0 (subst (λ (b : Bool). T b) (sym (made_among (start a) (fed a) (record_for s v))) o.1)

  opening_brings : (fed : Fed) (n m s : ℕ) (v : Ballot) → m < count → T (live n) → T (live m) → ¬ (m ≡ n) → T (cast_by stakes genesis honest fed m s v)
      → T (any_is (λ i. brings i s m v) (opening fed n))
  unfolding any_is
  opening_brings fed n m s v lt g h ne t =
      let q : Arrival → Bool = λ i. brings i s m v in
      let rs = calls.life (start m) (fed m) in
      given_in q (live n) (greeting fed n) g
      (gather_in q count m (votes_from fed n) lt
      (given_in q (live m && not (eqb m n)) (as_votes m rs) (T_and (live m) (not (eqb m n)) h (not_T (eqb m n) (λ u. ne (eqb→eq m n u))))
      (votes_in_lem m rs s v (subst (λ (b : Bool). T b) (made_among (start m) (fed m) (record_for s v)) t))))

  -- ---- a ring that is fed more

  module _ (fed : Fed) (js : Fed) where
    abbrev on : Fed
    on n = fed n ++ js n

    cast_on : (m s : ℕ) (v : Ballot) → T (cast_by stakes genesis honest fed m s v) → T (cast_by stakes genesis honest on m s v)
    cast_on m s v t = made_left (start m) (fed m) (js m) (record_for s v) t

    ring_on : FedRing stakes genesis honest fed
        → ((n m s : ℕ) (v : Ballot) → T (honest n) → T (honest m) → ¬ (m ≡ n) → T (brought_by (js n) s m v) → T (cast_by stakes genesis honest fed m s v))
        → ((n : ℕ) (c : Certificate) → ¬ HandedBy (js n) c) → FedRing stakes genesis honest on
    ring_on ring votes packets =
        record {
          few = ring.few;
          started = ring.started;
          mail = λ n m s v h k ne t.
              let q : Arrival → Bool = λ i. brings i s m v in
              cast_on m s v (any_cases q (fed n) (js n) (subst (λ (b : Bool). T b) (brought_any (on n) s m v) t)
              (λ u. ring.mail n m s v h k ne (subst (λ (b : Bool). T b) (sym (brought_any (fed n) s m v)) u))
              (λ u. votes n m s v h k ne (subst (λ (b : Bool). T b) (sym (brought_any (js n) s m v)) u)));
          packets = λ n c h t j.
              let g = ring.packets n c h (⊎_elim (λ u. u) (λ u. absurd (packets n c u)) (handed_cases (fed n) (js n) c t)) j in
              let kind = kind_in count c.kind in
              record {
                signed_a = λ m k u. cast_on m c.slot (ballot_a kind c.block) (g.signed_a m k u);
                signed_b = λ m k w u. cast_on m c.slot (ballot_b kind c.block) (g.signed_b m k w u);
              };
        }

    end_on : (n : ℕ) → life stakes genesis honest on n ≡ after_all (life stakes genesis honest fed n) (js n)
    end_on n = life_on (start n) (fed n) (js n)

    kept_on : Ring stakes genesis honest fed → (n s b p x : ℕ) → T (honest n) → T (kept_by stakes genesis honest fed n s b p x) → T (kept_by stakes genesis honest on n s b p x)
    kept_on ring n s b p x h t =
        (subst (λ (l : Ledger). Grow (life stakes genesis honest fed n) l) (sym (end_on n))
        (life_grow n (life stakes genesis honest fed n) (js n) (end_ready stakes genesis honest fed ring n h))).blocks s b p x t

  -- ---- the round of a ring

  -- What the ring's lives keep to.
  pub record Sane (fed : Fed) : Type 0 where
    pub ring : FedRing stakes genesis honest fed
    pub once : AnnouncedOnce stakes genesis honest fed
    pub policy : (n : ℕ) → T (live n) → T (by_policy (start n) (fed n))

  module _ (fed : Fed) (sane : Sane fed) where
    ring : Ring stakes genesis honest fed
    ring = mail_is_enough stakes genesis honest fed sane.ring

    pub mid_ring : FedRing stakes genesis honest (mid fed)
    unfolding is_packet
    mid_ring =
        ring_on fed (opening fed) sane.ring (λ n m s v h k ne t. opening_cast fed n m s v t)
        (λ n c t. opening_votes is_packet fed n (λ u. u) (λ m r u. u) (handed_packet (opening fed n) c t))

    next_ring : FedRing stakes genesis honest (next fed)
    unfolding is_packet
    next_ring =
        ring_on (mid fed) (closing fed) mid_ring
        (λ n m s v h k ne t. absurd (closing_only (λ i. brings i s m v) fed n (λ x b u. u) (λ x u. u) (subst (λ (b : Bool). T b) (brought_any (closing fed n) s m v) t)))
        (λ n c t. closing_only is_packet fed n (λ x b u. u) (λ x u. u) (handed_packet (closing fed n) c t))

    -- A block that it announces a live node keeps, to which it was announced.
    abbrev pub Source : ℕ → ℕ → ℕ → ℕ → Type 0
    Source s b p x = (m : ℕ) × T (live m) × T (announced_by (fed m) s b p x)

    shown_source : (s b p x : ℕ) → T (any_is (λ i. announces i s b p x) (shown_all fed)) → Source s b p x
    unfolding keeps_block
    shown_source s b p x t =
        let q : Arrival → Bool = λ i. announces i s b p x in
        let r = gather_out q count (shown_by fed) t in
        let m = r.0 in
        let l = life stakes genesis honest fed m in
        let g = given_out q (live m) (gather (suc last_slot) (λ t. as_shown t (blocks_at l t))) r.2 in
        let z = gather_out q (suc last_slot) (λ t. as_shown t (blocks_at l t)) g.1 in
        let o = shown_out z.0 s b p x (blocks_at l z.0) z.2 in
        let kept : T (keeps_block l s b p x) = subst (λ (j : ℕ). T (keeps_block l j b p x)) o.0 o.1 in
        (m, g.0, (kept_blocks_announced stakes m (genesis m) (sane.ring.started m (sub m g.0)) (fed m) s b p x kept).0)

    -- What was announced by its end was announced before, or has such a source.
    next_cases : {X : Type 0} (n s b p x : ℕ) → T (announced_by (next fed n) s b p x) → (T (announced_by (fed n) s b p x) → X) → (Source s b p x → X) → X
    next_cases n s b p x t old new =
        let q : Arrival → Bool = λ i. announces i s b p x in
        let l = life stakes genesis honest (mid fed) n in
        any_cases q (mid fed n) (closing fed n) (subst (λ (z : Bool). T z) (announced_any (next fed n) s b p x) t)
        (λ u. any_cases q (fed n) (opening fed n) u
        (λ w. old (subst (λ (z : Bool). T z) (sym (announced_any (fed n) s b p x)) w))
        (λ w. absurd (opening_votes q fed n (λ y. y) (λ m r y. y) w)))
        (λ u. any_cases q (offered l (shown_all fed)) clocks (given_out q (live n) (leaving fed n) u).1
        (λ w. new (shown_source s b p x (offered_of q l (shown_all fed) w)))
        (λ w. absurd (clocks_only q (λ x y. y) w)))

    -- To a live node no block is announced that was announced to none.
    pub next_source : (n s b p x : ℕ) → T (live n) → T (announced_by (next fed n) s b p x) → Source s b p x
    next_source n s b p x h t = next_cases n s b p x t (λ u. (n, h, u)) (λ u. u)

    honest_source : (n s b p x : ℕ) → T (honest n) → T (announced_by (next fed n) s b p x) → (m : ℕ) × T (honest m) × T (announced_by (fed m) s b p x)
    honest_source n s b p x h t = next_cases n s b p x t (λ u. (n, h, u)) (λ u. (u.0, sub u.0 u.1, u.2))

    next_once : AnnouncedOnce stakes genesis honest (next fed)
    next_once n m s b p x q y h k t u =
        let a = honest_source n s b p x h t in
        let c = honest_source m s b q y k u in
        sane.once a.0 c.0 s b p x q y a.1 c.1 a.2 c.2

    next_policy : (n : ℕ) → T (live n) → T (by_policy (start n) (next fed n))
    unfolding is_block_input
    next_policy n h =
        let l = life stakes genesis honest (mid fed) n in
        policy_both (start n) (mid fed n) (closing fed n)
        (policy_both (start n) (fed n) (opening fed n) (sane.policy n h) (policy_other _ (opening fed n) (opening_votes is_block_input fed n (λ u. u) (λ m r u. u))))
        (given_by (λ (is : List Arrival). T (by_policy l is)) (live n) [] (λ _. leaving fed n) (policy_other l [] (λ u. alone_none is_block_input u))
        (λ _. policy_both l (offered l (shown_all fed)) clocks (offered_policy l (shown_all fed)) (policy_other _ clocks (clocks_only is_block_input (λ t u. u)))))

    next_sane : Sane (next fed)
    next_sane = record { ring = next_ring; once = next_once; policy = next_policy }

    -- ---- what was due is in it

    abbrev pub more : Fed
    more n = opening fed n ++ closing fed n

    pub next_is : (n : ℕ) → next fed n ≡ fed n ++ more n
    next_is n = append_assoc (fed n) (opening fed n) (closing fed n)

    -- Nothing comes to a node that is not live.
    none_more : (n : ℕ) → T (not (live n)) → more n ≡ []
    none_more n h =
        ap (λ (is : List Arrival). is ++ closing fed n) (given_off (live n) (greeting fed n) h) ∙ given_off (live n) (leaving fed n) h

    look_done : (l : Ledger) → T (is_done (served l (of_input input.Look)).answer)
    unfolding served feed verdict fed_on fed_with is_done
    look_done l = tt

    pub next_woken : (n : ℕ) → T (live n) → T (accepted_in (start n) (next fed n))
    unfolding accepted_in
    next_woken n h =
        subst (λ (is : List Arrival). T (accepted_in (start n) is)) (sym (next_is n))
        (accepted_both (start n) (fed n) (more n)
        (subst (λ (is : List Arrival). T (accepted_in (life stakes genesis honest fed n) (is ++ closing fed n))) (sym (given_on (live n) (greeting fed n) h))
        (T-left (is_done (served (life stakes genesis honest fed n) (of_input input.Look)).answer) _ (look_done (life stakes genesis honest fed n)))))

    mid_brings : (n m s : ℕ) (v : Ballot) → T (live n) → T (live m) → ¬ (m ≡ n) → T (cast_by stakes genesis honest fed m s v) → T (any_is (λ i. brings i s m v) (mid fed n))
    mid_brings n m s v g k ne t =
        any_right (λ i. brings i s m v) (fed n) (opening fed n) (opening_brings fed n m s v (in_table_lem stakes genesis honest fed ring m (sub m k)) g k ne t)

    pub next_votes : (n m s : ℕ) (v : Ballot) → T (live n) → T (live m) → ¬ (m ≡ n) → T (cast_by stakes genesis honest fed m s v) → T (brought_by (next fed n) s m v)
    next_votes n m s v g k ne t =
        subst (λ (b : Bool). T b) (sym (brought_any (next fed n) s m v)) (any_left (λ i. brings i s m v) (mid fed n) (closing fed n) (mid_brings n m s v g k ne t))

    -- A fresh node has no mark, and an honest one votes.
    no_mark : (n s : ℕ) → s ≤ last_slot → ¬ T (marked (start n) s)
    unfolding fresh blank_row
    no_mark n s hi t = rw (get_or-replicate (suc last_slot) s (blank_row (places_for count)) no_row (omega arith)) at t

    votes_itself : (n : ℕ) → T (honest n) → T (not (is_watcher (life stakes genesis honest fed n)))
    unfolding is_watcher fresh
    votes_itself n h =
        let l = life stakes genesis honest fed n in
        let own = (end_ready stakes genesis honest fed ring n h).own in
        let size = (end_table stakes genesis honest fed ring n h).count in
        not_T (eqb l.own l.count) (λ t. omega (arith, eqb→eq l.own l.count t, own, size, in_table_lem stakes genesis honest fed ring n h))

    pub next_timed : (n s : ℕ) → T (live n) → 1 ≤ s → s ≤ last_slot → T (is_armed (life stakes genesis honest fed n) s) → T (timed_out_in (start n) (next fed n) s)
    next_timed n s g lo hi a =
        let h = sub n g in
        let l = life stakes genesis honest fed n in
        let q : Arrival → Bool = λ i. times_out i s in
        let begun = fresh_sound stakes n (genesis n) (sane.ring.started n h) in
        let fed-clock = gather_in q (suc last_slot) s clock (omega arith) (alone_in q (of_input (input.Timeout (record { 0 = s }))) (eqb_refl s)) in
        let clocked = any_right q (opening fed n) (closing fed n)
        (given_in q (live n) (leaving fed n) g (any_right q (offered (life stakes genesis honest (mid fed) n) (shown_all fed)) clocks fed-clock)) in
        subst (λ (is : List Arrival). T (timed_out_in (start n) is s)) (sym (next_is n))
        (or_t (timed_out_in l (more n) s) (marked l s) (life_clocked l (more n) (after_sound (start n) (fed n) begun) s (votes_itself n h) lo hi a clocked)
        (λ u. timed_right (start n) (fed n) (more n) s u)
        (λ u. or_t (timed_out_in (start n) (fed n) s) (marked (start n) s) (life_marked (start n) (fed n) begun s u)
        (λ w. timed_left (start n) (fed n) (more n) s w)
        (λ w. absurd (no_mark n s hi w))))

    -- The votes that live nodes cast are in each live pool when the blocks come.
    pub mid_pool : (m i s : ℕ) (v : Ballot) → T (live m) → T (live i) → 1 ≤ s → s ≤ last_slot → T (cast_by stakes genesis honest fed i s v)
        → T (has (cell_at (life stakes genesis honest (mid fed) m) s i) v)
    mid_pool m i s v k g lo hi t =
        let here = mail_is_enough stakes genesis honest (mid fed) mid_ring in
        let c = cast_on fed (opening fed) i s v t in
        elim (ℕ_discrete i m) [
          | yes e ↦ subst (λ (j : ℕ). T (has (cell_at (life stakes genesis honest (mid fed) j) s i) v)) e (own_stored stakes genesis honest (mid fed) here i s v (sub i g) c)
          | no ne ↦ fed_is_enough stakes genesis honest (mid fed) here m i s v (sub m k) (sub i g) ne lo hi c
              (subst (λ (q : Bool). T q) (sym (brought_any (mid fed m) s i v)) (mid_brings m i s v k g ne t))
        ]

    -- A block that a live node keeps is announced to each at which it then has rule D's weights.
    pub next_blocks : (n m s b p x : ℕ) → T (live n) → T (live m) → s ≤ last_slot → T (kept_by stakes genesis honest fed n s b p x)
        → T (fallback_weights (life stakes genesis honest (mid fed) m) s b) → T (announced_by (next fed m) s b p x)
    unfolding keeps_block
    next_blocks n m s b p x g k hi keeps weighs =
        let q : Arrival → Bool = λ i. announces i s b p x in
        let l = life stakes genesis honest (mid fed) m in
        let kept = gather_in q (suc last_slot) s (λ t. as_shown t (blocks_at (life stakes genesis honest fed n) t)) (omega arith) (shown_in s b p x (blocks_at (life stakes genesis honest fed n) s) keeps) in
        let shown = gather_in q count n (shown_by fed) (in_table_lem stakes genesis honest fed ring n (sub n g)) (given_in q (live n) _ g kept) in
        subst (λ (z : Bool). T z) (sym (announced_any (next fed m) s b p x))
        (any_right q (mid fed m) (closing fed m) (given_in q (live m) (leaving fed m) k (any_left q (offered l (shown_all fed)) clocks
        (offered_heavy m l (shown_all fed) (end_ready stakes genesis honest (mid fed) (mail_is_enough stakes genesis honest (mid fed) mid_ring) m (sub m k)) s b p x
        (kept_number (life stakes genesis honest fed n) s b p x keeps) weighs shown))))

  -- ---- round after round

  module _ (fed : Fed) (sane : Sane fed) where
    unfoldable pub rounds : ℕ → Fed
    rounds zero = fed
    rounds (suc k) = next (rounds k)

    pub rounds_sane : (k : ℕ) → Sane (rounds k)
    unfolding rounds
    rounds_sane zero = sane
    rounds_sane (suc k) = next_sane (rounds k) (rounds_sane k)

    abbrev pub since : ℕ → Fed
    since k = more (rounds k) (rounds_sane k)

    pub rounds_on : (k n : ℕ) → rounds (suc k) n ≡ rounds k n ++ since k n
    unfolding rounds
    rounds_on k n = next_is (rounds k) (rounds_sane k) n

    -- What came since the first of them,
    unfoldable pub all_since : ℕ → Fed
    all_since zero n = []
    all_since (suc k) n = all_since k n ++ since k n

    pub rounds_all : (k n : ℕ) → rounds k n ≡ fed n ++ all_since k n
    unfolding rounds all_since
    rounds_all zero n = sym (append-nil (fed n))
    rounds_all (suc k) n =
        rounds_on k n ∙ (ap (λ (is : List Arrival). is ++ since k n) (rounds_all k n) ∙ append_assoc (fed n) (all_since k n) (since k n))

    -- nothing at a node that is not live,
    pub none_since : (k n : ℕ) → T (not (live n)) → all_since k n ≡ []
    unfolding all_since
    none_since zero n h = refl
    none_since (suc k) n h =
        ap (λ (is : List Arrival). is ++ since k n) (none_since k n h) ∙ none_more (rounds k) (rounds_sane k) n h

    -- and to live nodes no block that was announced to none of them.
    pub rounds_source : (k n s b p x : ℕ) → T (live n) → T (announced_by (rounds k n) s b p x) → Source fed sane s b p x
    unfolding rounds
    rounds_source zero n s b p x h t = (n, h, t)
    rounds_source (suc k) n s b p x h t =
        let a = next_source (rounds k) (rounds_sane k) n s b p x h t in
        rounds_source k a.0 s b p x a.1 a.2

-- ---- where every honest node is live

module _ (stakes : List ℕ) (genesis : ℕ → ℕ) (honest : Test) (fed : ℕ → List Arrival) (sane : Sane stakes genesis honest honest (λ n h. h) fed) where
  abbrev all : (n : ℕ) → T (honest n) → T (honest n)
  all n h = h

  -- The votes for an asked block are in each pool when the blocks come.
  asked_heavy : (n m s b p x : ℕ) → T (honest m) → s ≤ last_slot → Asked stakes genesis honest fed n s b p x
      → T (fallback_weights (life stakes genesis honest (mid stakes genesis honest honest all fed) m) s b)
  asked_heavy n m s b p x k hi a =
      let mids = mid stakes genesis honest honest all fed in
      let here = mail_is_enough stakes genesis honest mids (mid_ring stakes genesis honest honest all fed sane) in
      let r = arrivals_are_enough stakes genesis honest fed sane.ring sane.once in
      let lo = (asked_fits stakes genesis honest fed r.0 n s b p x 0 r.1 a).0 in
      heavy_weighs stakes genesis honest mids here m s b k (λ i. honest i && cast_by stakes genesis honest fed i s (notar b)) a.heavy
      (λ i t. let z = and_t (honest i) (cast_by stakes genesis honest fed i s (notar b)) t in
      mid_pool stakes genesis honest honest all fed sane m i s (notar b) k z.0 lo hi z.1)

module _ (stakes : List ℕ) (genesis : ℕ → ℕ) (honest : Test) (fed : ℕ → List Arrival) (sane : Sane stakes genesis honest honest (λ n h. h) fed) where
  abbrev whole : (n : ℕ) → T (honest n) → T (honest n)
  whole n h = h

  abbrev after : ℕ → ℕ → List Arrival
  after = rounds stakes genesis honest honest whole fed sane

  abbrev safely : (k : ℕ) → Sane stakes genesis honest honest whole (after k)
  safely = rounds_sane stakes genesis honest honest whole fed sane

  rounds_feed : Rounds stakes genesis honest after last_slot
  unfolding rounds
  rounds_feed =
      record {
        more = since stakes genesis honest honest whole fed sane;
        go_on = rounds_on stakes genesis honest honest whole fed sane;
        ring = λ k. mail_is_enough stakes genesis honest (after k) (safely k).ring;
        one_parent = λ k. (arrivals_are_enough stakes genesis honest (after k) (safely k).ring (safely k).once).1;
        policy = λ k. (safely k).policy;
        woken = λ k. next_woken stakes genesis honest honest whole (after k) (safely k);
        votes = λ k n m s v h g ne lo hi nf t. next_votes stakes genesis honest honest whole (after k) (safely k) n m s v h g ne t;
        timeouts = λ k n s h lo hi a. T-right (not (no_initial (own_cell (life stakes genesis honest (after (suc k)) n) s)))
            (timed_out_in (fresh stakes n (genesis n)) (after (suc k) n) s) (next_timed stakes genesis honest honest whole (after k) (safely k) n s h lo hi a);
        blocks = λ k n m s b p x g hi a. next_blocks stakes genesis honest honest whole (after k) (safely k) n m s b p x a.voter g hi a.kept
            (asked_heavy stakes genesis honest (after k) (safely k) n m s b p x g hi a);
      }

pub feeding_goes_on : FeedingGoesOn
unfolding rounds
feeding_goes_on stakes genesis honest fed r once policy =
    let sane : Sane stakes genesis honest honest (λ n h. h) fed = record { ring = r; once = once; policy = policy } in
    record { rounds = after stakes genesis honest fed sane; begins = λ n. refl; feeds = rounds_feed stakes genesis honest fed sane }

-- What came after the first of the rounds.
pub later : (stakes : List ℕ) (genesis : ℕ → ℕ) (honest : Test) (fed : ℕ → ℕ → List Arrival) (u : ℕ) → Rounds stakes genesis honest fed u → (k n : ℕ)
    → (js : List Arrival) × (fed k n ≡ fed 0 n ++ js)
later stakes genesis honest fed u r zero n = ([], sym (append-nil (fed 0 n)))
later stakes genesis honest fed u r (suc k) n =
    let e = later stakes genesis honest fed u r k n in
    (e.0 ++ r.more k n, r.go_on k n ∙ (ap (λ (is : List Arrival). is ++ r.more k n) e.1 ∙ append_assoc (fed 0 n) e.0 (r.more k n)))

pub no_ring_stuck : NoRingStuck
no_ring_stuck stakes genesis honest fed r once policy =
    let f = feeding_goes_on stakes genesis honest fed r once policy in
    let d = rounds_decide stakes genesis honest f.rounds last_slot (omega arith) f.feeds in
    let k = d.round in
    record {
      arrived = f.rounds k;
      later = λ n. (later stakes genesis honest f.rounds last_slot f.feeds k n).0;
      go_on = λ n. (later stakes genesis honest f.rounds last_slot f.feeds k n).1 ∙ ap (λ (is : List Arrival). is ++ (later stakes genesis honest f.rounds last_slot f.feeds k n).0) (f.begins n);
      going = d.going;
    }
