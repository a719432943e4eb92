-- A vote stored in a free place changes the recount of its slot by exactly what the vote adds, for every kind of vote. Assumes
-- nothing.
use mathlib.Core.Path.{◌≡◌, refl, ap}
use mathlib.Core.Bool.{Bool, true, false, not, ◌||◌}
use Prim.Native.Nat.{ℕ, ◌+◌, ◌≤◌, ◌<◌}
use native.Mathlib.Omega.{arith}
use lib.Dec.{eqb}
use borrow.Author.Tests.{ne_eqb, eqb-true, eqb-false}
use Rattle.rulebook.specs.declared.Cell.{Cell}
use Rattle.rulebook.specs.declared.Tally.{Tally}
use Rattle.rulebook.specs.declared.VoteKind.{VoteKind}
use Rattle.rulebook.specs.declared.VoteKind.TheVariants as vote
use Rattle.rulebook.specs.declared.Who.{Who}
use Rattle.rulebook.specs.declared.Who.TheVariants as who
use Rattle.rulebook.specs.declared.Place.TheVariants.{Free}
use Rattle.rulebook.specs.Tools.{choose, part}
use Rattle.rulebook.specs.Weights.{weight, stake_in}
use Rattle.rulebook.specs.Ledger.{Ledger, none, no_initial, cell_at, card_of}
use Rattle.rulebook.specs.Pool.{counts, weigh}
use Rattle.rulebook.specs.Votes.{place_if, place_of, fill_fallback, with_vote}
use Rattle.rulebook.specs.Inputs.{misfits}
use Rattle.rulebook.specs.Cards.{leads, tallied, most, leader, recount, adds, change_of}
use Rattle.rule_laws.proofs.ToolLaws.{choose_off, and_both, part_on, part_off, sum_change}
use Rattle.recounting.proofs.Leading.{Lead, lead_one, lead_recount, lead_same, blank_leads, lead_more}

-- A free place: not the very vote, and room.
pub place_free : (same room : Bool) → place_if same room ≡ Free → (same ≡ false) × (room ≡ true)
unfolding place_if
place_free true room e = absurd cc
place_free false true e = (refl, refl)
place_free false false e = absurd cc

-- l' is l with node n's vote stored in slot s, in a free place. Only the slot's cells, the count and the stakes matter, so this
-- says nothing of how a ledger is built: whatever else a row keeps, a card too, may have changed.
pub record Stored (l l' : Ledger) (s n : ℕ) (k : VoteKind) (b : ℕ) : Type 0 where
  pub count : l'.count ≡ l.count
  pub stakes : l'.stakes ≡ l.stakes
  pub here : cell_at l' s n ≡ with_vote (cell_at l s n) k b
  pub else : (m : ℕ) → (m ≡ n → ⊥) → cell_at l' s m ≡ cell_at l s m
  pub node : n < l.count
  pub staked : 1 ≤ stake_in l.stakes n
  pub free : place_of (cell_at l s n) k b ≡ Free
  pub fits : misfits k b ≡ false

-- ---- one weight: the node's stake comes in where it counts now and did not before

module _ (l l' : Ledger) (s n : ℕ) (k : VoteKind) (b : ℕ) (h : Stored l l' s n k b) where
  abbrev c : Cell
  c = cell_at l s n

  abbrev st : ℕ
  st = stake_in l.stakes n

  weigh_change : (w : Who) → weigh l' s w + part (counts w c) st ≡ weigh l s w + part (counts w (with_vote c k b)) st
  unfolding weigh weight
  weigh_change w =
      let f : ℕ → ℕ = (λ i. part (counts w (cell_at l s i)) (stake_in l.stakes i)) in
      let g : ℕ → ℕ = (λ i. part (counts w (cell_at l' s i)) (stake_in l.stakes i)) in
      rw (h.stakes, h.count, ← h.here)
      (sum_change l.count n f g h.node (λ i j ne. ap (λ (x : Cell). part (counts w x) (stake_in l.stakes i)) (h.else i ne)))

  -- who counts as before weighs as before
  pub weigh_stays : (w : Who) → counts w (with_vote c k b) ≡ counts w c → weigh l' s w ≡ weigh l s w
  weigh_stays w e = let z = ap (λ (t : Bool). part t st) e in omega (arith, weigh_change w)

  -- who did not count and does now
  pub weigh_more : (w : Who) → counts w c ≡ false → counts w (with_vote c k b) ≡ true → weigh l' s w ≡ weigh l s w + st
  weigh_more w e d = omega (arith, weigh_change w, part_off (counts w c) st e, part_on (counts w (with_vote c k b)) st d)

-- ---- the card, part by part

-- The parts of the new recount are those of the old with what is added; the leader by what leads.
module _ (l l' : Ledger) (s : ℕ) (d : Tally) where
  card_from_lem : weigh l' s who.Skip ≡ weigh l s who.Skip + d.skip.0 → weigh l' s who.Final ≡ weigh l s who.Final + d.finals.0
      → weigh l' s who.SkipOrFallback ≡ weigh l s who.SkipOrFallback + d.skipcert.0
      → Lead l' s (choose (leads d.leader d.weight.0 (leader l s) (most l s)) d.leader (leader l s)) (choose (leads d.leader d.weight.0 (leader l s) (most l s)) d.weight.0 (most l s))
      → recount l' s ≡ tallied (recount l s) d
  unfolding recount tallied
  card_from_lem x y z lead =
      let e = lead_one l' s _ _ _ _ (lead_recount l' s) lead in
      rw (x, y, z, e.0, e.1)

  -- a vote that is no notar leaves the leader
  lead_stays : d.leader ≡ 0 → d.weight.0 ≡ 0 → ((m : ℕ) → 1 ≤ m → weigh l' s (who.Notar m) ≡ weigh l s (who.Notar m))
      → Lead l' s (choose (leads d.leader d.weight.0 (leader l s) (most l s)) d.leader (leader l s)) (choose (leads d.leader d.weight.0 (leader l s) (most l s)) d.weight.0 (most l s))
  lead_stays p q same =
      let t = blank_leads l s (leader l s) (most l s) (lead_recount l s) in
      rw (p, q, choose_off _ 0 (leader l s) t, choose_off _ 0 (most l s) t) (lead_same l l' s (leader l s) (most l s) same (lead_recount l s))

-- ---- each kind of vote

-- who counts is read from these four places alone
abbrev Reads : Who → Type 0
Reads w = (c d : Cell) → c.notar ≡ d.notar → c.skip ≡ d.skip → c.skipfallback ≡ d.skipfallback → c.finalvote ≡ d.finalvote → counts w c ≡ counts w d

-- a fallback block changes no such weight
fill_counts : (w : Who) → Reads w → (x y z : Bool) (c : Cell) (b : ℕ) → counts w (fill_fallback x y z c b) ≡ counts w c
unfolding fill_fallback
fill_counts w f true y z c b = f _ _ refl refl refl refl
fill_counts w f false true z c b = f _ _ refl refl refl refl
fill_counts w f false false true c b = f _ _ refl refl refl refl
fill_counts w f false false false c b = refl

skip_reads : Reads who.Skip
unfolding counts
skip_reads c d p q r e = rw q

final_reads : Reads who.Final
unfolding counts
final_reads c d p q r e = rw e

skipcert_reads : Reads who.SkipOrFallback
unfolding counts
skipcert_reads c d p q r e = rw (q, r)

notar_reads : (m : ℕ) → Reads (who.Notar m)
unfolding counts
notar_reads m c d p q r e = rw p

-- the stake comes into the skip certificate unless the node is in it
once : (t : Bool) (x y st : ℕ) → x + part (not t) st ≡ y + st → x ≡ y + part t st
unfolding part
once true x y st e = omega arith
once false x y st e = omega arith

part_or_off : (a b : Bool) (w : ℕ) → b ≡ false → part (a || b) w ≡ part a w
part_or_off true b w e = refl
part_or_off false b w e = ap (λ (t : Bool). part t w) e

part_or_on : (a : Bool) (w : ℕ) → part (a || true) w ≡ w
unfolding part
part_or_on true w = refl
part_or_on false w = refl

module _ (l l' : Ledger) (s n b : ℕ) where
  store_notar : Stored l l' s n vote.Notar b → recount l' s ≡ tallied (recount l s) (change_of l s n vote.Notar b)
  unfolding change_of adds counts with_vote place_of misfits
  store_notar h =
      let k = vote.Notar in
      let c = cell_at l s n in
      let w = stake_in l.stakes n in
      let p = place_free (eqb c.notar b) (no_initial c) h.free in
      let z = eqb-true c.notar 0 (and_both (none c.notar) (none c.skip) p.1).0 in
      let b_is : 1 ≤ b = omega (arith, eqb-false b 0 h.fits) in
      card_from_lem l l' s (card_of 0 0 0 b (weigh l s (who.Notar b) + w))
      (omega (arith, weigh_stays l l' s n k b h who.Skip refl))
      (omega (arith, weigh_stays l l' s n k b h who.Final refl))
      (omega (arith, weigh_stays l l' s n k b h who.SkipOrFallback refl))
      (lead_more l l' s b w (leader l s) (most l s) b_is h.staked
      (λ x i. omega (arith, weigh_change l l' s n k b h (who.Notar x), part_off (eqb c.notar x) w (ne_eqb c.notar x (λ e. omega arith))))
      (lead_recount l s) _ refl)

  store_skip : Stored l l' s n vote.Skip b → recount l' s ≡ tallied (recount l s) (change_of l s n vote.Skip b)
  unfolding change_of adds counts with_vote place_of
  store_skip h =
      let k = vote.Skip in
      let c = cell_at l s n in
      let w = stake_in l.stakes n in
      let p = place_free (not (none c.skip)) (no_initial c) h.free in
      let z = (and_both (none c.notar) (none c.skip) p.1).1 in
      let d = card_of w 0 (part (none c.skipfallback) w) 0 0 in
      let a : (not (none c.skip) || not (none c.skipfallback)) ≡ not (none c.skipfallback) = rw z in
      let q = ap (λ (t : Bool). part t w) a in
      card_from_lem l l' s d
      (weigh_more l l' s n k b h who.Skip p.0 refl)
      (omega (arith, weigh_stays l l' s n k b h who.Final refl))
      (once (none c.skipfallback) _ _ w (omega (arith, weigh_change l l' s n k b h who.SkipOrFallback, part_on true w refl)))
      (lead_stays l l' s d refl refl (λ m i. weigh_stays l l' s n k b h (who.Notar m) refl))

  store_skipfallback : Stored l l' s n vote.SkipFallback b → recount l' s ≡ tallied (recount l s) (change_of l s n vote.SkipFallback b)
  unfolding change_of adds counts with_vote place_of
  store_skipfallback h =
      let k = vote.SkipFallback in
      let c = cell_at l s n in
      let w = stake_in l.stakes n in
      let p = place_free (not (none c.skipfallback)) true h.free in
      let d = card_of 0 0 (part (none c.skip) w) 0 0 in
      let a : part (not (none c.skip) || not (none c.skipfallback)) w ≡ part (not (none c.skip)) w =
      part_or_off (not (none c.skip)) (not (none c.skipfallback)) w p.0 in
      card_from_lem l l' s d
      (omega (arith, weigh_stays l l' s n k b h who.Skip refl))
      (omega (arith, weigh_stays l l' s n k b h who.Final refl))
      (once (none c.skip) _ _ w (omega (arith, weigh_change l l' s n k b h who.SkipOrFallback, part_or_on (not (none c.skip)) w)))
      (lead_stays l l' s d refl refl (λ m i. weigh_stays l l' s n k b h (who.Notar m) refl))

  store_final : Stored l l' s n vote.Final b → recount l' s ≡ tallied (recount l s) (change_of l s n vote.Final b)
  unfolding change_of adds counts with_vote place_of
  store_final h =
      let k = vote.Final in
      let c = cell_at l s n in
      let w = stake_in l.stakes n in
      let p = place_free (not (none c.finalvote)) true h.free in
      let d = card_of 0 w 0 0 0 in
      card_from_lem l l' s d
      (omega (arith, weigh_stays l l' s n k b h who.Skip refl))
      (weigh_more l l' s n k b h who.Final p.0 refl)
      (omega (arith, weigh_stays l l' s n k b h who.SkipOrFallback refl))
      (lead_stays l l' s d refl refl (λ m i. weigh_stays l l' s n k b h (who.Notar m) refl))

  store_fallback : Stored l l' s n vote.NotarFallback b → recount l' s ≡ tallied (recount l s) (change_of l s n vote.NotarFallback b)
  unfolding change_of adds with_vote
  store_fallback h =
      let k = vote.NotarFallback in
      let c = cell_at l s n in
      let x = none c.fallback1 in
      let y = none c.fallback2 in
      let z = none c.fallback3 in
      card_from_lem l l' s (card_of 0 0 0 0 0)
      (omega (arith, weigh_stays l l' s n k b h who.Skip (fill_counts who.Skip skip_reads x y z c b)))
      (omega (arith, weigh_stays l l' s n k b h who.Final (fill_counts who.Final final_reads x y z c b)))
      (omega (arith, weigh_stays l l' s n k b h who.SkipOrFallback (fill_counts who.SkipOrFallback skipcert_reads x y z c b)))
      (lead_stays l l' s (card_of 0 0 0 0 0) refl refl (λ m i. weigh_stays l l' s n k b h (who.Notar m) (fill_counts (who.Notar m) (notar_reads m) x y z c b)))

  store_other : Stored l l' s n vote.Other b → recount l' s ≡ tallied (recount l s) (change_of l s n vote.Other b)
  unfolding place_of
  store_other h = let e = h.free in absurd cc

-- "At every moment it equals what a recount of the stored votes gives": the step, for every kind.
pub recount_stored : (l l' : Ledger) (s n : ℕ) (k : VoteKind) (b : ℕ) → Stored l l' s n k b → recount l' s ≡ tallied (recount l s) (change_of l s n k b)
recount_stored l l' s n vote.Notar b h = store_notar l l' s n b h
recount_stored l l' s n vote.NotarFallback b h = store_fallback l l' s n b h
recount_stored l l' s n vote.Skip b h = store_skip l l' s n b h
recount_stored l l' s n vote.SkipFallback b h = store_skipfallback l l' s n b h
recount_stored l l' s n vote.Final b h = store_final l l' s n b h
recount_stored l l' s n vote.Other b h = store_other l l' s n b h
