-- The card of a slot stays the recount of its votes: when another slot's row is written, when a row is written with the same cells, and
-- when a vote is stored.
use mathlib.Core.Path.{◌≡◌, refl, sym, ap, ◌∙◌}
use mathlib.Core.Bool.{false}
use Prim.Native.Nat.{ℕ, ◌<◌, ◌≤◌}
use native.Mathlib.Omega.{arith}
use lib.ListN.{length, get_or, set}
use lib.Seq.{get_or-set_same, get_or-set_other}
use Rattle.rulebook.specs.declared.Cell.{Cell}
use Rattle.rulebook.specs.declared.Tally.{Tally}
use Rattle.rulebook.specs.declared.VoteKind.{VoteKind}
use Rattle.rulebook.specs.declared.Place.TheVariants.{Free}
use Rattle.rulebook.specs.Weights.{last_slot, stake_in}
use Rattle.rulebook.specs.Ledger.{Ledger, Row, no_cell, places, row_at, cell_at, put_row}
use Rattle.rulebook.specs.Cards.{tallied, recount, change_of}
use Rattle.rulebook.specs.Votes.{place_of, with_vote, store_vote}
use Rattle.rulebook.specs.Inputs.{misfits}
use Rattle.rulebook.specs.WellFormed.{Shaped}
use Rattle.recounting.proofs.Storing.{Stored, recount_stored}
use Rattle.recounting.proofs.Using.{recount_same}
use Rattle.settling.proofs.Places.{row_there, row_else}
use Rattle.settling.proofs.Weighing.{row_cells}

module _ (l : Ledger) (s : ℕ) (r : Row) where
  -- Another slot's recount stays.
  pub recount_else : (t : ℕ) → (t ≡ s → ⊥) → recount (put_row l s r) t ≡ recount l t
  recount_else t ne =
      recount_same l (put_row l s r) t refl refl (λ m. ap (λ (x : Row). get_or x.cells m no_cell) (row_else l s r t ne))

  -- A row with the same cells.
  pub recount_row : s < length l.rows → r.cells ≡ (row_at l s).cells → recount (put_row l s r) s ≡ recount l s
  recount_row h e = recount_same l (put_row l s r) s refl refl (λ m. row_cells l s r h e s m)

-- A vote of a node of the table into a free place.
module _ (l : Ledger) (h : Shaped (places l) l) (s n : ℕ) (k : VoteKind) (x : ℕ) (high : s ≤ last_slot) (room : n < places l) where
  abbrev stored : Row
  stored =
      let r = row_at l s in
      record {
        blocks = r.blocks;
        timed_out = r.timed_out;
        final = r.final;
        clash = r.clash;
        card = tallied r.card (change_of l s n k x);
        certificates = r.certificates;
        cells = set r.cells n (with_vote (cell_at l s n) k x);
      }

  stored_cell : (i : ℕ) → cell_at (store_vote l s n k x) s i ≡ get_or (set (row_at l s).cells n (with_vote (cell_at l s n) k x)) i no_cell
  unfolding store_vote
  stored_cell i = ap (λ (y : Row). get_or y.cells i no_cell) (row_there l s stored (omega (arith, h.rows)))

  stored_vote : n < l.count → 1 ≤ stake_in l.stakes n → place_of (cell_at l s n) k x ≡ Free → misfits k x ≡ false → Stored l (store_vote l s n k x) s n k x
  unfolding store_vote
  stored_vote low staked free fits =
      let c : Cell = with_vote (cell_at l s n) k x in
      record {
        count = refl;
        stakes = refl;
        here = stored_cell n ∙ get_or-set_same (row_at l s).cells n c no_cell (omega (arith, h.cells s (omega arith)));
        else = λ i ne. stored_cell i ∙ get_or-set_other (row_at l s).cells n i c no_cell ne;
        node = low;
        staked = staked;
        free = free;
        fits = fits;
      }

  pub card_stored : n < l.count → 1 ≤ stake_in l.stakes n → place_of (cell_at l s n) k x ≡ Free → misfits k x ≡ false
      → (row_at l s).card ≡ recount l s → tallied (row_at l s).card (change_of l s n k x) ≡ recount (store_vote l s n k x) s
  card_stored low staked free fits e =
      ap (λ (t : Tally). tallied t (change_of l s n k x)) e
      ∙ sym (recount_stored l (store_vote l s n k x) s n k x (stored_vote low staked free fits))
