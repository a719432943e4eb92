-- A node that starts is sound, and so it stays; and its life makes at most 132 records.
use Rattle.std.specs.Prelude.{Ok}
use mathlib.Core.Path.{◌≡◌, refl, sym, ap, ◌∙◌, subst}
use mathlib.Core.Bool.{true, false, not, ◌&&◌, ◌||◌}
use mathlib.Core.List.{List, [], ◌∷◌, ◌++◌}
use Prim.Native.Nat.{ℕ, zero, suc, ◌-◌, ◌<◌, ◌≤◌}
use native.Mathlib.Omega.{arith}
use lib.ListN.{length, get_or, replicate, length-append, length-replicate, get_or-append, get_or-replicate}
use lib.Dec.{leb, ltb}
use borrow.Author.Tests.{not-false, leb-true, leb-false, le-ltb}
use Rattle.rulebook.specs.declared.Refusal.TheVariants as refusal
use Rattle.rulebook.specs.Tools.{whenever, all_to}
use Rattle.rulebook.specs.Weights.{most_nodes, places_for, most_stake, last_slot, windows, stake_in, stakes_fit, total_to}
use Rattle.rulebook.specs.Ledger.{Ledger, Row, none, no_cell, no_kept, no_card, most_blocks, most_certificates, blank_row, no_row, places, table_of, row_at, own_cell, all_blocks, fresh}
use Rattle.rulebook.specs.Run.{most_records}
use Rattle.rulebook.specs.Cards.{same_card}
use Rattle.rulebook.specs.Inputs.{start_verdict, watch_verdict}
use Rattle.rulebook.specs.Taking.{Arrival}
use Rattle.rulebook.specs.WellFormed.{Shaped, in_order, cell_fits, cell_blank, cells_fit, kept_fits, blocks_apart, blocks_fit, block_blank, each_kept, certificate_fits, certificates_apart, certificates_fit, kept_blank, backs, own_fits, row_blank}
use Rattle.rule_laws.proofs.PlaceLaws.{nodes_placed}
use Rattle.rule_laws.proofs.ToolLaws.{given_off, and_both, or_none, all_at, all_each, sum_same}
use Rattle.recounting.proofs.Using.{recount_none}
use Rattle.settling.specs.Facts.{RowFacts, Formed, Sound}
use Rattle.settling.specs.Steps.{after, life}
use Rattle.rule_laws.proofs.RuleLaws.{refuse_fine}
use Rattle.settling.proofs.FactLaws.{well_formed_lem}
use Rattle.settling.proofs.SpareLaws.{spare_most}
use Rattle.settling.proofs.Life.{life_paid}
use Rattle.settling.proofs.Soundness.{life_sound}

-- What is read of equal things, past their end too.
pub replicate_all : {A : Type 0} (n i : ℕ) (x : A) → get_or (replicate n x) i x ≡ x
replicate_all zero i x = refl
replicate_all (suc n) zero x = refl
replicate_all (suc n) (suc i) x = replicate_all n i x

-- ---- the blank row

blank_cell : (p n : ℕ) → get_or (blank_row p).cells n no_cell ≡ no_cell
unfolding blank_row
blank_cell p n = replicate_all p n no_cell

blank_long : (p : ℕ) → length (blank_row p).cells ≡ p
unfolding blank_row
blank_long p = length-replicate p no_cell

blank_four : (p : ℕ) → length (blank_row p).blocks ≡ most_blocks
unfolding blank_row
blank_four p = refl

blank_thirteen : (p : ℕ) → length (blank_row p).certificates ≡ most_certificates
unfolding blank_row
blank_thirteen p = refl

blank_card : (p : ℕ) → (blank_row p).card ≡ no_card
unfolding blank_row
blank_card p = refl

no_cell_fits : cell_fits no_cell ≡ true
unfolding cell_fits in_order
no_cell_fits = refl

no_cell_blank : cell_blank no_cell ≡ true
unfolding cell_blank
no_cell_blank = refl

blank_certificates : (stakes : List ℕ) (s : ℕ) → certificates_fit stakes s (replicate most_certificates no_kept) ≡ true
unfolding certificates_fit each_kept certificate_fits certificates_apart whenever
blank_certificates stakes s = refl

blank_facts : (l : Ledger) (s p : ℕ) → RowFacts l s (blank_row p)
unfolding blank_row blocks_fit all_blocks blocks_apart kept_fits whenever in_order
blank_facts l s p =
    record {
      blocks = refl;
      timed_out = omega arith;
      clash = omega arith;
      certificates = blank_certificates (table_of l) s;
      cells = λ n a b. ap cell_fits (blank_cell p n) ∙ no_cell_fits;
      beyond = λ n a b. ap cell_blank (blank_cell p n) ∙ no_cell_blank;
    }

-- Without own fallbacks there is nothing to weigh.
own_blank : (l : Ledger) (s : ℕ) → own_cell l s ≡ no_cell → own_fits l s ≡ true
unfolding own_fits backs
own_blank l s e = rw e

row_zero : (l : Ledger) (p : ℕ) → row_at l 0 ≡ blank_row p → row_blank l ≡ true
unfolding row_blank cells_fit blank_row all_blocks block_blank same_card each_kept kept_blank
row_zero l p e =
    rw e
    (all_each (places l) (λ n. whenever (ltb n 0) (λ _. cell_fits (get_or (blank_row p).cells n no_cell)) (cell_blank (get_or (blank_row p).cells n no_cell)))
    (λ n a. given_off (ltb n 0) (cell_blank (get_or (blank_row p).cells n no_cell)) (λ _. cell_fits (get_or (blank_row p).cells n no_cell)) (le-ltb n 0 (omega arith)) ∙ ap cell_blank (blank_cell p n) ∙ no_cell_blank))

-- ---- the stakes in their places

-- Past the nodes there is no stake.
pub stake_past : (ws : List ℕ) (k n : ℕ) → length ws ≤ n → stake_in (ws ++ replicate k 0) n ≡ 0
stake_past [] k n h = replicate_all k n 0
stake_past (w ∷ ws) k zero h = absurd (omega arith)
stake_past (w ∷ ws) k (suc n) h = stake_past ws k n (omega arith)

-- Of the nodes each has its own.
pub stake_there : (ws : List ℕ) (k n : ℕ) → n < length ws → stake_in (ws ++ replicate k 0) n ≡ stake_in ws n
stake_there ws k n h = get_or-append ws (replicate k 0) 0 n h

pub total_there : (ws : List ℕ) (k : ℕ) → total_to (ws ++ replicate k 0) (length ws) ≡ total_to ws (length ws)
unfolding total_to
total_there ws k = sum_same (length ws) (λ n. stake_in (ws ++ replicate k 0) n) (λ n. stake_in ws n) (λ n h. stake_there ws k n h)

-- ---- a fresh node, with an own number or without

record Begun (stakes : List ℕ) (own genesis : ℕ) : Type 0 where
  pub fits : stakes_fit stakes (length stakes) ≡ true
  pub mine : own ≤ length stakes
  pub first : none genesis ≡ false

module _ (stakes : List ℕ) (own genesis : ℕ) (b : Begun stakes own genesis) where
  begun_formed : Formed (fresh stakes own genesis)
  unfolding fresh stakes_fit
  begun_formed =
      let l : Ledger = fresh stakes own genesis in
      let p : ℕ = places_for (length stakes) in
      let k : ℕ = places_for (length stakes) - length stakes in
      let sizes = and_both (leb 1 (length stakes) && leb (length stakes) most_nodes) _ (b.fits) in
      let size = and_both (leb 1 (length stakes)) (leb (length stakes) most_nodes) sizes.0 in
      let each = and_both (all_to (length stakes) (λ n. leb 1 (stake_in stakes n))) (leb (total_to stakes (length stakes)) most_stake) sizes.1 in
      record {
        head =
            record {
              room = length-append stakes (replicate k 0) ∙ omega (arith, length-replicate {A = ℕ} k 0, nodes_placed (length stakes) (leb-true (length stakes) most_nodes size.1));
              some = leb-true 1 (length stakes) size.0;
              few = leb-true (length stakes) most_nodes size.1;
              staked = λ n h. subst (λ (w : ℕ). 1 ≤ w) (sym (stake_there stakes k n h)) (leb-true 1 (stake_in stakes n) (all_at (length stakes) n (λ n. leb 1 (stake_in stakes n)) each.0 h));
              sum = total_there stakes k;
              small = leb-true (total_to stakes (length stakes)) most_stake each.1;
              mine = b.mine;
              genesis = b.first;
              armed = λ w h. omega (arith, replicate_all {A = ℕ} windows w 0);
              unused = λ n a b. stake_past stakes k n b;
            };
        blank = row_zero l p (get_or-replicate (suc last_slot) 0 (blank_row p) no_row (omega arith));
        own = λ s a b. own_blank l s (ap (λ (r : Row). get_or r.cells own no_cell) (get_or-replicate (suc last_slot) s (blank_row p) no_row (omega arith)) ∙ blank_cell p own);
        cards = λ s a b.
            let r : row_at l s ≡ blank_row p = get_or-replicate (suc last_slot) s (blank_row p) no_row (omega arith) in
            ap (λ (x : Row). x.card) r ∙ blank_card p ∙ sym (recount_none l s (λ n. ap (λ (x : Row). get_or x.cells n no_cell) r ∙ blank_cell p n));
        rows = λ s a b. subst (RowFacts l s) (sym (get_or-replicate (suc last_slot) s (blank_row p) no_row (omega arith))) (blank_facts l s p);
      }

  begun_shaped : Shaped (places (fresh stakes own genesis)) (fresh stakes own genesis)
  unfolding fresh stakes_fit
  begun_shaped =
      let p : ℕ = places_for (length stakes) in
      let k : ℕ = places_for (length stakes) - length stakes in
      let few = begun_formed.head.few in
      record {
        armed = length-replicate {A = ℕ} windows 0;
        stakes = refl;
        rows = length-replicate (suc last_slot) (blank_row p);
        blocks = λ s h. ap (λ (r : Row). length r.blocks) (get_or-replicate (suc last_slot) s (blank_row p) no_row h) ∙ blank_four p;
        certificates = λ s h. ap (λ (r : Row). length r.certificates) (get_or-replicate (suc last_slot) s (blank_row p) no_row h) ∙ blank_thirteen p;
        cells = λ s h. ap (λ (r : Row). length r.cells) (get_or-replicate (suc last_slot) s (blank_row p) no_row h) ∙ blank_long p ∙ sym begun_formed.head.room;
      }

  begun_sound : Sound (fresh stakes own genesis)
  begun_sound = record { shaped = begun_shaped; formed = well_formed_lem (fresh stakes own genesis) begun_formed }

  begun_within : (cs : List Arrival) → length (life (fresh stakes own genesis) cs) ≤ most_records
  begun_within cs =
      omega (arith, (life_paid (fresh stakes own genesis) cs begun_sound).spent, spare_most (fresh stakes own genesis))

-- ---- start

module _ (stakes : List ℕ) (own genesis : ℕ) (e : start_verdict stakes own genesis ≡ Ok tt) where
  -- What start has passed.
  pub start_fine : (stakes_fit stakes (length stakes) ≡ true) × (own < length stakes) × (none genesis ≡ false)
  unfolding start_verdict
  start_fine =
      let p = refuse_fine (not (stakes_fit stakes (length stakes)) || (leb (length stakes) own || none genesis)) refusal.BadSizes (Ok tt) e in
      let q = or_none (not (stakes_fit stakes (length stakes))) (leb (length stakes) own || none genesis) p.0 in
      let r = or_none (leb (length stakes) own) (none genesis) q.1 in
      (not-false (stakes_fit stakes (length stakes)) q.0, leb-false (length stakes) own r.0, r.1)

  start_begun : Begun stakes own genesis
  start_begun = record { fits = start_fine.0; mine = omega (arith, start_fine.1); first = start_fine.2 }

  -- A node that starts is sound.
  pub fresh_sound : Sound (fresh stakes own genesis)
  fresh_sound = begun_sound stakes own genesis start_begun

  pub fresh_formed : Formed (fresh stakes own genesis)
  fresh_formed = begun_formed stakes own genesis start_begun

  pub fresh_shaped : Shaped (places (fresh stakes own genesis)) (fresh stakes own genesis)
  fresh_shaped = begun_shaped stakes own genesis start_begun

  -- It stays so, whatever it is fed and handed, and makes at most 132 records.
  pub start_sound : (cs : List Arrival) → Sound (after (fresh stakes own genesis) cs)
  start_sound cs = life_sound (fresh stakes own genesis) cs fresh_sound

  pub start_within : (cs : List Arrival) → length (life (fresh stakes own genesis) cs) ≤ most_records
  start_within cs = begun_within stakes own genesis start_begun cs

-- ---- a watcher's start

module _ (stakes : List ℕ) (genesis : ℕ) (e : watch_verdict stakes genesis ≡ Ok tt) where
  pub watch_fine : (stakes_fit stakes (length stakes) ≡ true) × (none genesis ≡ false)
  unfolding watch_verdict
  watch_fine =
      let p = refuse_fine (not (stakes_fit stakes (length stakes)) || none genesis) refusal.BadSizes (Ok tt) e in
      let q = or_none (not (stakes_fit stakes (length stakes))) (none genesis) p.0 in
      (not-false (stakes_fit stakes (length stakes)) q.0, q.1)

  watch_begun : Begun stakes (length stakes) genesis
  watch_begun = record { fits = watch_fine.0; mine = omega arith; first = watch_fine.1 }

  pub watching_sound : Sound (fresh stakes (length stakes) genesis)
  watching_sound = begun_sound stakes (length stakes) genesis watch_begun

  pub watch_sound : (cs : List Arrival) → Sound (after (fresh stakes (length stakes) genesis) cs)
  watch_sound cs = life_sound (fresh stakes (length stakes) genesis) cs watching_sound

  pub watch_within : (cs : List Arrival) → length (life (fresh stakes (length stakes) genesis) cs) ≤ most_records
  watch_within cs = begun_within stakes (length stakes) genesis watch_begun cs
