-- The ways through a host's questions: 17, 3, for a node's votes 2, and what is asked. Assumes nothing.
use Rattle.std.specs.Prelude.{Result, Ok, Err}
use mathlib.Core.Path.{◌≡◌, sym, ap, ◌∙◌}
use mathlib.Core.Bool.{Bool, true, false, not}
use mathlib.Core.List.{List}
use Prim.Native.Nat.{ℕ}
use native.Mathlib.Omega.{arith}
use borrow.Author.Tests.{leb-false, eq-eqb, ne_eqb}
use Rattle.rulebook.specs.declared.Refusal.{Refusal}
use Rattle.rulebook.specs.declared.Refusal.TheVariants as refusal
use Rattle.rulebook.specs.declared.Weight.{Weight}
use Rattle.rulebook.specs.declared.Who.TheVariants as who
use Rattle.rulebook.specs.Weights.{slot_ok}
use Rattle.rulebook.specs.Ledger.{none, cell_at}
use Rattle.rulebook.specs.Pool.{weigh}
use Rattle.rulebook.specs.Inputs.{not_in_table}
use Rattle.rule_laws.proofs.ToolLaws.{given_on, given_off}
use Rattle.record.specs.Layout.{ledger_of, InSlot, InWindow, Placed}
use Rattle.pool.specs.Weighing.{Carded}
use Rattle.pool.proofs.HeldLaws.{weigh_light}
use Rattle.soundness.specs.Sound.{sound_words}
use Rattle.soundness.proofs.Laws.{sound_long, sound_placed, sound_cards, sound_tabled}
use Rattle.cards.specs.Asked.{asked_on}
use Rattle.cards.proofs.Ways.{slot_range, asked_refused}
use Rattle.readers.specs.Asked.{on_slot, votes_on, head_kept, head_on}
use Rattle.readers.specs.Weighed.{missing_d, Light, weights_kept, weights_on}

-- The test of a node against the count that was read is that against the ledger's.
pub in_table_lem : (count m n : ℕ) (t : Bool) → m ≡ count → t ≡ not_in_table m n → not_in_table count n ≡ t
in_table_lem count m n t a b = sym (b ∙ ap (λ (x : ℕ). not_in_table x n) a)

-- ---- a question about a slot

-- The refusal of a slot that may not be asked is that of the question.
module _ {A : Type 0} (ws : List ℕ) (s : ℕ) (asked : Unit {0} → Result A Refusal) where
  pub slot_refused : (r : Refusal) → asked_on ws s ≡ Err r → on_slot Err ws s asked ≡ Err r
  unfolding on_slot
  slot_refused r e = asked_refused ws s r asked e

module _ {A : Type 0} (refused : Refusal → A) (ws : List ℕ) (s : ℕ) (asked : Unit {0} → A) where
  pub slot_unsound : sound_words ws ≡ false → on_slot refused ws s asked ≡ refused refusal.BadRecord
  unfolding on_slot
  slot_unsound e = given_off (sound_words ws) (refused refusal.BadRecord) _ e

  pub slot_none : sound_words ws ≡ true → slot_ok s ≡ false → on_slot refused ws s asked ≡ refused refusal.BadSlot
  unfolding on_slot
  slot_none e q =
      given_on (sound_words ws) (refused refusal.BadRecord) _ e ∙ given_off (slot_ok s) (refused refusal.BadSlot) asked q

  pub slot_asked : sound_words ws ≡ true → slot_ok s ≡ true → on_slot refused ws s asked ≡ asked tt
  unfolding on_slot
  slot_asked e q =
      given_on (sound_words ws) (refused refusal.BadRecord) _ e ∙ given_on (slot_ok s) (refused refusal.BadSlot) asked q

-- The record is long enough for the slot's row, and for its window.
module _ (ws : List ℕ) (s : ℕ) (e : sound_words ws ≡ true) (q : slot_ok s ≡ true) where
  pub slot_placed : InSlot ws s
  slot_placed = record { long = sound_long ws e; slot = omega (arith, (slot_range s q).1) }

  pub window_placed : InWindow ws s
  window_placed =
      record { long = sound_long ws e; later = (slot_range s q).0; slot = omega (arith, (slot_range s q).1) }

  -- ---- a question about a node's votes in it
  module _ (n : ℕ) where
    pub votes_none : not_in_table (ledger_of ws).count n ≡ true → votes_on ws s n ≡ Err refusal.BadNode
    unfolding votes_on
    votes_none t =
        slot_asked Err ws s _ e q
        ∙ given_off (not (not_in_table (ledger_of ws).count n)) (Err refusal.BadNode) _ (ap not t)

    pub votes_there : not_in_table (ledger_of ws).count n ≡ false → votes_on ws s n ≡ Ok (cell_at (ledger_of ws) s n)
    unfolding votes_on
    votes_there t =
        slot_asked Err ws s _ e q
        ∙ given_on (not (not_in_table (ledger_of ws).count n)) (Err refusal.BadNode) _ (ap not t)

    pub votes_placed : not_in_table (ledger_of ws).count n ≡ false → Placed ws s n
    votes_placed t =
        record {
          long = sound_long ws e;
          slot = omega (arith, (slot_range s q).1);
          node = omega (arith, leb-false (ledger_of ws).count n t, sound_placed ws e);
        }

-- ---- the record's head

module _ (ws : List ℕ) where
  pub head_unsound : sound_words ws ≡ false → head_on ws ≡ Err refusal.BadRecord
  unfolding head_on
  head_unsound e = given_off (sound_words ws) (Err refusal.BadRecord) _ e

  pub head_asked : sound_words ws ≡ true → head_on ws ≡ Ok (head_kept ws)
  unfolding head_on
  head_asked e = given_on (sound_words ws) (Err refusal.BadRecord) _ e

-- ---- a block's weights

module _ (ws : List ℕ) (s : ℕ) where
  pub slot_carded : sound_words ws ≡ true → slot_ok s ≡ true → Carded ws s
  slot_carded e q =
      record {
        weighing = record { long = sound_long ws e; slot = omega (arith, (slot_range s q).1); table = sound_tabled ws e };
        later = (slot_range s q).0;
        cards = sound_cards ws e;
      }

  -- No weight is more than the total, and so their sum does not wrap.
  pub weights_light : Carded ws s → (b n k t : ℕ) → n ≡ weigh (ledger_of ws) s (who.Notar b) → k ≡ weigh (ledger_of ws) s who.Skip → t ≡ (ledger_of ws).total → Light t n k
  weights_light c b n k t p q r =
      let table = c.weighing.table in
      record {
        total = omega (arith, r, table.light);
        notar = omega (arith, p, r, weigh_light table s (who.Notar b));
        skip = omega (arith, q, r, weigh_light table s who.Skip);
      }

  -- What was weighed, put together.
  pub weights_four : (b : ℕ) (n f k m : Weight) (t : ℕ) → n.0 ≡ weigh (ledger_of ws) s (who.Notar b) → f.0 ≡ weigh (ledger_of ws) s (who.NotarOrFallback b) → k.0 ≡ weigh (ledger_of ws) s who.Skip
      → t ≡ (ledger_of ws).total → m.0 ≡ missing_d t n.0 k.0 → record { notar = n; fallback = f; skip = k; missing = m } ≡ weights_kept ws s b
  unfolding weights_kept
  weights_four b n f k m t p q r e d =
      let whole : m.0 ≡ missing_d (ledger_of ws).total (weigh (ledger_of ws) s (who.Notar b)) (weigh (ledger_of ws) s who.Skip) = d ∙ (λ i. missing_d (e i) (p i) (r i)) in
      λ j. record { notar = record { 0 = p j }; fallback = record { 0 = q j }; skip = record { 0 = r j }; missing = record { 0 = whole j } }

  module _ (e : sound_words ws ≡ true) (q : slot_ok s ≡ true) (b : ℕ) where
    pub weights_none : b ≡ 0 → weights_on ws s b ≡ Err refusal.BadBlock
    unfolding weights_on
    weights_none z =
        slot_asked Err ws s _ e q ∙ given_off (not (none b)) (Err refusal.BadBlock) _ (ap not (eq-eqb b 0 z))

    pub weights_there : (b ≡ 0 → ⊥) → weights_on ws s b ≡ Ok (weights_kept ws s b)
    unfolding weights_on
    weights_there z =
        slot_asked Err ws s _ e q ∙ given_on (not (none b)) (Err refusal.BadBlock) _ (ap not (ne_eqb b 0 z))
