-- A vote that an honest node cast and that is fed to an honest node stands in its pool: it is there already, or its place is free.
use Rattle.std.specs.Prelude.{⊤, Result, Ok}
use mathlib.Core.Path.{◌≡◌, refl, sym, ap, ◌∙◌, subst}
use mathlib.Core.Bool.{Bool, true, false, not, ◌&&◌, ◌||◌}
use mathlib.Core.List.{List, [], ◌∷◌}
use Prim.Native.Nat.{ℕ, zero, suc, ◌<◌, ◌≤◌}
use native.Mathlib.Omega.{arith}
use lib.Dec.{T, eqb, leb, eqb→eq, eqb_refl, leb→le, le→leb, T_not, not_T}
use lib.ListN.{length}
use Rattle.rulebook.specs.declared.Cell.{Cell}
use Rattle.rulebook.specs.declared.Vote.{Vote}
use Rattle.rulebook.specs.declared.VoteKind.{VoteKind}
use Rattle.rulebook.specs.declared.VoteKind.TheVariants as vote
use Rattle.rulebook.specs.declared.Input.{Input}
use Rattle.rulebook.specs.declared.Input.TheVariants as input
use Rattle.rulebook.specs.declared.Refusal.{Refusal}
use Rattle.rulebook.specs.Weights.{last_slot, slot_ok}
use Rattle.rulebook.specs.PaperNumbers.{vote_number}
use Rattle.rulebook.specs.Ledger.{Ledger, none, no_initial, fresh, cell_at}
use Rattle.rulebook.specs.Pool.{has_fallback}
use Rattle.rulebook.specs.Votes.{place_if, place_of}
use Rattle.rulebook.specs.Run.{run}
use Rattle.rulebook.specs.Inputs.{is_other, misfits, place_verdict, vote_verdict, verdict, intake, fed_on, fed_with, feed}
use Rattle.rulebook.specs.Taking.{Arrival, of_input, of_packet, served}
use Rattle.safety.specs.Slot.{Ballot, notar, notar_fallback, skip, skip_fallback, final}
use Rattle.safety.specs.Ballots.{kind_of, block_of, has, brings}
use Rattle.safety.specs.Moves.{room_for, stay}
use Rattle.safety.specs.Ring.{after_all, brought_by, life}
use Rattle.safety.proofs.Tests.{and_t, T_and, or_t, T-left, T-right, by_test, yes}
use Rattle.safety.proofs.Cells.{Neat, initial_cases, notar_is, is_notar, notar_some, not_both, one_block, stored_has, kept_has}
use Rattle.safety.proofs.Along.{moves_grow}
use Rattle.safety.proofs.Growing.{Grow}
use Rattle.safety.proofs.Stores.{store_stored}
use Rattle.safety.proofs.Steps.{Going, Ready, pass, run_going, intake_going, start_going}
use Rattle.safety.proofs.Lives.{step_ready, life_grow, life_table, fresh_ready, watch_sized}
use Rattle.safety.proofs.Safety.{in_table_lem, start_ready, end_ready, pooled, own_stored}
use Rattle.mail.specs.Mail.{FedIsEnough, WatcherFedIsEnough}

-- ---- kinds

pub kind_is_lem : (k : VoteKind) (v : Ballot) → T (eqb (vote_number k) (vote_number (kind_of v))) → k ≡ kind_of v
unfolding vote_number
kind_is_lem vote.Notar (notar b) t = refl
kind_is_lem vote.Notar (notar_fallback b) t = absurd t
kind_is_lem vote.Notar skip t = absurd t
kind_is_lem vote.Notar skip_fallback t = absurd t
kind_is_lem vote.Notar final t = absurd t
kind_is_lem vote.NotarFallback (notar b) t = absurd t
kind_is_lem vote.NotarFallback (notar_fallback b) t = refl
kind_is_lem vote.NotarFallback skip t = absurd t
kind_is_lem vote.NotarFallback skip_fallback t = absurd t
kind_is_lem vote.NotarFallback final t = absurd t
kind_is_lem vote.Skip (notar b) t = absurd t
kind_is_lem vote.Skip (notar_fallback b) t = absurd t
kind_is_lem vote.Skip skip t = refl
kind_is_lem vote.Skip skip_fallback t = absurd t
kind_is_lem vote.Skip final t = absurd t
kind_is_lem vote.SkipFallback (notar b) t = absurd t
kind_is_lem vote.SkipFallback (notar_fallback b) t = absurd t
kind_is_lem vote.SkipFallback skip t = absurd t
kind_is_lem vote.SkipFallback skip_fallback t = refl
kind_is_lem vote.SkipFallback final t = absurd t
kind_is_lem vote.Final (notar b) t = absurd t
kind_is_lem vote.Final (notar_fallback b) t = absurd t
kind_is_lem vote.Final skip t = absurd t
kind_is_lem vote.Final skip_fallback t = absurd t
kind_is_lem vote.Final final t = refl
kind_is_lem vote.Other (notar b) t = absurd t
kind_is_lem vote.Other (notar_fallback b) t = absurd t
kind_is_lem vote.Other skip t = absurd t
kind_is_lem vote.Other skip_fallback t = absurd t
kind_is_lem vote.Other final t = absurd t

not_other : (v : Ballot) → T (not (is_other (kind_of v)))
unfolding is_other
not_other (notar b) = tt
not_other (notar_fallback b) = tt
not_other skip = tt
not_other skip_fallback = tt
not_other final = tt

pub fits : (c : Cell) (v : Ballot) → T (has c v) → T (not (misfits (kind_of v) (block_of v)))
unfolding misfits
fits c (notar b) t = (and_t (not (none b)) (eqb c.notar b) t).0
fits c (notar_fallback b) t = (and_t (not (none b)) (has_fallback b c) t).0
fits c skip t = tt
fits c skip_fallback t = tt
fits c final t = tt

-- ---- four different blocks do not stand in three places

-- A cell's places for fallback blocks, by number.
abbrev fallback_at : Cell → ℕ → ℕ
fallback_at c zero = c.fallback1
fallback_at c (suc zero) = c.fallback2
fallback_at c (suc (suc i)) = c.fallback3

-- Block x stands in one of them.
record Placed (c : Cell) (x : ℕ) : Type 0 where
  pub at : ℕ
  pub low : at < 3
  pub here : fallback_at c at ≡ x

placed : (c : Cell) (x : ℕ) → T (has c (notar_fallback x)) → Placed c x
unfolding has_fallback
placed c x t =
    or_t (eqb c.fallback1 x) (eqb c.fallback2 x || eqb c.fallback3 x) (and_t (not (none x)) (has_fallback x c) t).1
    (λ u. record { at = 0; low = omega arith; here = eqb→eq c.fallback1 x u })
    (λ u. or_t (eqb c.fallback2 x) (eqb c.fallback3 x) u
    (λ v. record { at = 1; low = omega arith; here = eqb→eq c.fallback2 x v })
    (λ v. record { at = 2; low = omega arith; here = eqb→eq c.fallback3 x v }))

-- Different blocks stand in different places.
places_differ : (c : Cell) (x y : ℕ) (p : Placed c x) (q : Placed c y) → ¬ (x ≡ y) → ¬ (p.at ≡ q.at)
places_differ c x y p q ne e = ne (sym p.here ∙ ap (fallback_at c) e ∙ q.here)

no_four_places : (c : Cell) (w x y z : ℕ) → Placed c w → Placed c x → Placed c y → Placed c z
    → ¬ (w ≡ x) → ¬ (w ≡ y) → ¬ (w ≡ z) → ¬ (x ≡ y) → ¬ (x ≡ z) → ¬ (y ≡ z) → ⊥
no_four_places c w x y z a b d e wx wy wz xy xz yz =
    omega (
      arith,
      a.low,
      b.low,
      d.low,
      e.low,
      places_differ c w x a b wx,
      places_differ c w y a d wy,
      places_differ c w z a e wz,
      places_differ c x y b d xy,
      places_differ c x z b e xz,
      places_differ c y z d e yz,
    )

fallback_here : (c : Cell) (x : ℕ) → T (not (none x)) → T (has_fallback x c) → T (has c (notar_fallback x))
fallback_here c x nx t = T_and (not (none x)) (has_fallback x c) nx t

here1 : (c : Cell) → T (has_fallback c.fallback1 c)
unfolding has_fallback
here1 c = T-left (eqb c.fallback1 c.fallback1) (eqb c.fallback2 c.fallback1 || eqb c.fallback3 c.fallback1) (eqb_refl c.fallback1)

here2 : (c : Cell) → T (has_fallback c.fallback2 c)
unfolding has_fallback
here2 c =
    T-right (eqb c.fallback1 c.fallback2) (eqb c.fallback2 c.fallback2 || eqb c.fallback3 c.fallback2)
    (T-left (eqb c.fallback2 c.fallback2) (eqb c.fallback3 c.fallback2) (eqb_refl c.fallback2))

here3 : (c : Cell) → T (has_fallback c.fallback3 c)
unfolding has_fallback
here3 c =
    T-right (eqb c.fallback1 c.fallback3) (eqb c.fallback2 c.fallback3 || eqb c.fallback3 c.fallback3)
    (T-right (eqb c.fallback2 c.fallback3) (eqb c.fallback3 c.fallback3) (eqb_refl c.fallback3))

-- ---- the place is free

-- Cell c, a pool's, has no vote that cell o, the node's own, has not.
module _ (c o : Cell) (nc : Neat c) (neat : Neat o) (all : (w : Ballot) → T (has c w) → T (has o w)) where
  -- A full row of fallbacks leaves the own cell no place for another.
  not_full : (b : ℕ) → T (has o (notar_fallback b)) → ¬ T (has c (notar_fallback b)) → T (none c.fallback3)
  not_full b t nh =
      by_test (none c.fallback3) (λ u. u)
      (λ z. let p = nc.apart in
      let y = (p.third z).0 in
      let x = (p.second y).0 in
      let h1 = fallback_here c c.fallback1 x (here1 c) in
      let h2 = fallback_here c c.fallback2 y (here2 c) in
      let h3 = fallback_here c c.fallback3 z (here3 c) in
      let other : (d : ℕ) → T (has c (notar_fallback d)) → ¬ (b ≡ d) = λ d h e. nh (subst (λ (k : ℕ). T (has c (notar_fallback k))) (sym e) h) in
      absurd (no_four_places o b c.fallback1 c.fallback2 c.fallback3
      (placed o b t) (placed o c.fallback1 (all (notar_fallback c.fallback1) h1)) (placed o c.fallback2 (all (notar_fallback c.fallback2) h2)) (placed o c.fallback3 (all (notar_fallback c.fallback3) h3))
      (other c.fallback1 h1) (other c.fallback2 h2) (other c.fallback3 h3) (p.second y).1 (p.third z).1 (p.third z).2))

  -- So a vote that the own cell has, and the pool has not, finds its place free.
  pub room_of : (v : Ballot) → T (has o v) → ¬ T (has c v) → T (room_for c v)
  room_of (notar b) t nh =
      T_and (not (none b)) (no_initial c) (notar_is o b t).0
      (by_test (no_initial c) (λ u. u)
      (λ u. absurd (initial_cases c u
      (λ z. let h = is_notar c c.notar z (eqb_refl c.notar) in
      nh (subst (λ (d : ℕ). T (has c (notar d))) (one_block o c.notar b (all (notar c.notar) h) t) h))
      (λ z. not_both o neat (notar_some o b t) (all skip z)))))
  room_of (notar_fallback b) t nh =
      let nb = (and_t (not (none b)) (has_fallback b o) t).0 in
      T_and (not (none b)) (none c.fallback3 && not (has_fallback b c)) nb
      (T_and (none c.fallback3) (not (has_fallback b c)) (not_full b t nh) (not_T (has_fallback b c) (λ u. nh (fallback_here c b nb u))))
  room_of skip t nh =
      by_test (no_initial c) (λ u. u)
      (λ u. absurd (initial_cases c u
      (λ z. not_both o neat (notar_some o c.notar (all (notar c.notar) (is_notar c c.notar z (eqb_refl c.notar)))) t)
      (λ z. nh z)))
  room_of skip_fallback t nh = tt
  room_of final t nh = tt

place_fine : (a b : Bool) → T (not a) → T b → place_verdict (place_if a b) ≡ Ok tt
unfolding place_if place_verdict
place_fine true b t u = absurd t
place_fine false true t u = refl
place_fine false false t u = absurd u

pub free_room : (c : Cell) (v : Ballot) → T (not (misfits (kind_of v) (block_of v))) → T (room_for c v) → ¬ T (has c v) → place_verdict (place_of c (kind_of v) (block_of v)) ≡ Ok tt
unfolding place_of misfits
free_room c (notar b) m r nh = place_fine (eqb c.notar b) (no_initial c) (not_T (eqb c.notar b) (λ u. nh (is_notar c b m u))) (and_t (not (none b)) (no_initial c) r).1
free_room c (notar_fallback b) m r nh =
    let a = and_t (not (none b)) (none c.fallback3 && not (has_fallback b c)) r in
    let d = and_t (none c.fallback3) (not (has_fallback b c)) a.1 in
    place_fine (has_fallback b c) (none c.fallback3) d.1 d.0
free_room c skip m r nh = place_fine (not (none c.skip)) (no_initial c) (not_T (not (none c.skip)) nh) r
free_room c skip_fallback m r nh = place_fine (not (none c.skipfallback)) true (not_T (not (none c.skipfallback)) nh) tt
free_room c final m r nh = place_fine (not (none c.finalvote)) true (not_T (not (none c.finalvote)) nh) tt

pub slot_fine : (s : ℕ) → 1 ≤ s → s ≤ last_slot → T (slot_ok s)
unfolding slot_ok
slot_fine s lo hi = T_and (leb 1 s) (leb s last_slot) (le→leb 1 s lo) (le→leb s last_slot hi)

-- ---- one arrival

module _ {most : ℕ} (me : ℕ) (l : Ledger) (r : Ready most me l) where
  -- What the intake left the run keeps, and so does the answer.
  pub intake_grows : (i : Input) → verdict l i ≡ Ok tt → Grow (intake l i).ledger (served l (of_input i)).ledger
  unfolding served feed fed_on fed_with
  intake_grows i e =
      let o = intake l i in
      let g = intake_going me l r.count i e (start_going me l r (of_input i)) in
      let from : Going most me (of_input i) o o = record { moves = stay; shaped = g.shaped; own = g.own; seat = g.seat; inv = g.inv } in
      subst (λ (x : Result ⊤ Refusal). Grow o.ledger (fed_on x l i).ledger) (sym e)
      (moves_grow me (of_input i) o (run o) (run_going me (of_input i) o o from).moves).1

  module _ (w : Vote) (s m : ℕ) (v : Ballot) (lo : 1 ≤ s) (hi : s ≤ last_slot) (in_table : m < l.count) (ne : ¬ (m ≡ me))
      (en : w.node.0 ≡ m) (ek : w.kind ≡ kind_of v) (es : w.slot.0 ≡ s) (eb : w.block ≡ block_of v) where
    vote_fine : T (not (misfits (kind_of v) (block_of v))) → place_verdict (place_of (cell_at l s m) (kind_of v) (block_of v)) ≡ Ok tt → vote_verdict l w ≡ Ok tt
    unfolding vote_verdict
    vote_fine f p =
        rw (en, ek, es, eb)
        (pass (is_other (kind_of v)) _ _ (not_other v)
        (pass (not (slot_ok s)) _ _ (yes (slot_ok s) (slot_fine s lo hi))
        (pass (leb l.count m) _ _ (not_T (leb l.count m) (λ t. omega (arith, leb→le l.count m t)))
        (pass (eqb m l.own) _ _ (not_T (eqb m l.own) (λ t. ne (eqb→eq m l.own t ∙ r.own)))
        (pass (misfits (kind_of v) (block_of v)) _ _ f p)))))

    vote_stands_lem : T (not (misfits (kind_of v) (block_of v))) → T (room_for (cell_at l s m) v) → ¬ T (has (cell_at l s m) v) → T (has (cell_at (served l (of_input (input.Vote w))).ledger s m) v)
    unfolding verdict intake
    vote_stands_lem f room nh =
        let e = vote_fine f (free_room (cell_at l s m) v f room nh) in
        kept_has (cell_at (intake l (input.Vote w)).ledger s m) (cell_at (served l (of_input (input.Vote w))).ledger s m) v ((intake_grows (input.Vote w) e).cells s m)
        (rw (en, ek, es, eb)
        (let st = store_stored l s m v (omega arith) (omega (arith, r.count)) r.shaped in
        subst (λ (c : Cell). T (has c v)) (sym st.here) (stored_has (cell_at l s m) v room)))

  -- What arrives brings the vote.
  arrival_stands : (i : Arrival) (s m : ℕ) (v : Ballot) → 1 ≤ s → s ≤ last_slot → m < l.count → ¬ (m ≡ me) → T (brings i s m v)
      → T (not (misfits (kind_of v) (block_of v))) → T (room_for (cell_at l s m) v) → ¬ T (has (cell_at l s m) v) → T (has (cell_at (served l i).ledger s m) v)
  arrival_stands (of_input (input.Vote w)) s m v lo hi in_table ne t f room nh =
      let a = and_t (eqb w.node.0 m) (eqb (vote_number w.kind) (vote_number (kind_of v)) && (eqb w.slot.0 s && eqb w.block (block_of v))) t in
      let b = and_t (eqb (vote_number w.kind) (vote_number (kind_of v))) (eqb w.slot.0 s && eqb w.block (block_of v)) a.1 in
      let c = and_t (eqb w.slot.0 s) (eqb w.block (block_of v)) b.1 in
      vote_stands_lem w s m v lo hi in_table ne (eqb→eq w.node.0 m a.0) (kind_is_lem w.kind v b.0) (eqb→eq w.slot.0 s c.0) (eqb→eq w.block (block_of v) c.1) f room nh
  arrival_stands (of_input (input.Block x k)) s m v lo hi in_table ne t f room nh = absurd t
  arrival_stands (of_input (input.Timeout x)) s m v lo hi in_table ne t f room nh = absurd t
  arrival_stands (of_input input.Look) s m v lo hi in_table ne t f room nh = absurd t
  arrival_stands (of_packet bytes) s m v lo hi in_table ne t f room nh = absurd t

-- ---- a life

-- A life at whose end the pool has no vote of node m that m's own cell o has not: a vote in o that was brought stands in the pool.
module _ {most : ℕ} (me s m : ℕ) (v : Ballot) (o : Cell) (neat : Neat o) (lo : 1 ≤ s) (hi : s ≤ last_slot) (ne : ¬ (m ≡ me)) (t : T (has o v)) where
  life_stands : (l : Ledger) (is : List Arrival) → Ready most me l → m < l.count → ((w : Ballot) → T (has (cell_at (after_all l is) s m) w) → T (has o w))
      → T (brought_by is s m v) → T (has (cell_at (after_all l is) s m) v)
  unfolding after_all brought_by
  life_stands l [] r in_table all b = absurd b
  life_stands l (i ∷ is) r in_table all b =
      let k = step_ready me l i r in
      let next = (served l i).ledger in
      let c = cell_at l s m in
      let d = cell_at next s m in
      let last = cell_at (after_all next is) s m in
      let whole = life_grow me l (i ∷ is) r in
      let same = life_table me l (i ∷ []) r in
      or_t (brings i s m v) (brought_by is s m v) b
      (λ u. by_test (has c v)
      (λ x. kept_has c last v (whole.cells s m) x)
      (λ x. kept_has d last v ((life_grow me next is k).cells s m)
      (arrival_stands me l r i s m v lo hi in_table ne u (fits o v t)
      (room_of c o (r.inv.neat s m) neat (λ w y. all w (kept_has c last w (whole.cells s m) y)) v t (T_not (has c v) x)) (T_not (has c v) x))))
      (λ u. life_stands next is k (subst (λ (j : ℕ). m < j) (sym same.count) in_table) all u)

pub fed_is_enough : FedIsEnough
unfolding fresh
fed_is_enough stakes genesis honest fed ring n m s v h k ne lo hi t b =
    life_stands n s m v (cell_at (life stakes genesis honest fed m) s m) ((end_ready stakes genesis honest fed ring m k).inv.neat s m) lo hi ne
    (own_stored stakes genesis honest fed ring m s v k t) (fresh stakes n (genesis n)) (fed n) (start_ready stakes genesis honest fed ring n h)
    (in_table_lem stakes genesis honest fed ring m k) (λ w. pooled stakes genesis honest fed ring s n m w h k) b

pub watcher_fed_is_enough : WatcherFedIsEnough
unfolding fresh
watcher_fed_is_enough stakes genesis honest fed ring g e lived holds m s v k lo hi t b =
    let inside = in_table_lem stakes genesis honest fed ring m k in
    life_stands (length stakes) s m v (cell_at (life stakes genesis honest fed m) s m) ((end_ready stakes genesis honest fed ring m k).inv.neat s m) lo hi (λ q. omega (arith, q, inside))
    (own_stored stakes genesis honest fed ring m s v k t) (fresh stakes (length stakes) g) lived (fresh_ready stakes (length stakes) g (watch_sized stakes g e))
    inside (λ w u. own_stored stakes genesis honest fed ring m s w k (holds.pool m s w k u)) b
