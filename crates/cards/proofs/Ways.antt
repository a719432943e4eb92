-- A slot that may be asked, and the ways through the question for a card: 17, 3, and the card, which is the recount of the slot's stored votes. Assumes nothing.
use Rattle.std.specs.Prelude.{Result, Ok, Err}
use mathlib.Core.Path.{◌≡◌, refl, ap, ◌∙◌}
use mathlib.Core.Bool.{Bool, true, false}
use mathlib.Core.List.{List}
use Prim.Native.Nat.{ℕ, ◌≤◌}
use native.Mathlib.Omega.{arith}
use borrow.Author.Tests.{leb-true}
use lib.Dec.{leb}
use Rattle.rulebook.specs.declared.Refusal.{Refusal}
use Rattle.rulebook.specs.declared.Refusal.TheVariants as refusal
use Rattle.rulebook.specs.Tools.{whenever}
use Rattle.rulebook.specs.Weights.{last_slot, slot_ok}
use Rattle.rulebook.specs.Ledger.{row_at}
use Rattle.rulebook.specs.Cards.{recount}
use Rattle.rule_laws.proofs.ToolLaws.{given_on, given_off, and_both}
use Rattle.record.specs.Layout.{ledger_of, InSlot}
use Rattle.soundness.specs.Sound.{sound_words}
use Rattle.soundness.proofs.Laws.{sound_long, sound_cards}
use Rattle.cards.specs.Asked.{asked_on, card_on}

-- One of the slots 1 to 16.
pub slot_range : (s : ℕ) → slot_ok s ≡ true → (1 ≤ s) × (s ≤ last_slot)
unfolding slot_ok
slot_range s e =
    let h = and_both (leb 1 s) (leb s last_slot) e in
    (leb-true 1 s h.0, leb-true s last_slot h.1)

-- Of two tests, each with its refusal.
two_fine : (a b : Bool) (x y : Refusal) → whenever a (λ _. whenever b (λ _. Ok (tt {0})) (Err x)) (Err y) ≡ Ok tt → (a ≡ true) × (b ≡ true)
unfolding whenever
two_fine true true x y e = (refl, refl)
two_fine true false x y e = let z : ◌≡◌ {A = ℕ} 0 1 = cc in absurd (omega arith)
two_fine false b x y e = let z : ◌≡◌ {A = ℕ} 0 1 = cc in absurd (omega arith)

two_refused : {A : Type 0} (a b : Bool) (x y r : Refusal) (f : Unit {0} → Result A Refusal) → whenever a (λ _. whenever b (λ _. Ok (tt {0})) (Err x)) (Err y) ≡ Err r
    → whenever a (λ _. whenever b f (Err x)) (Err y) ≡ Err r
unfolding whenever
two_refused true true x y r f e = let z : ◌≡◌ {A = ℕ} 0 1 = cc in absurd (omega arith)
two_refused true false x y r f e = let d : x ≡ r = cc in ap Err d
two_refused false b x y r f e = let d : y ≡ r = cc in ap Err d

module _ (ws : List ℕ) (s : ℕ) where
  -- It is one of a record.
  pub asked_fine : asked_on ws s ≡ Ok tt → (sound_words ws ≡ true) × (slot_ok s ≡ true)
  unfolding asked_on
  asked_fine e = two_fine (sound_words ws) (slot_ok s) refusal.BadSlot refusal.BadRecord e

  -- A refusal is that of the whole question.
  pub asked_refused : {A : Type 0} (r : Refusal) (f : Unit {0} → Result A Refusal) → asked_on ws s ≡ Err r
      → whenever (sound_words ws) (λ _. whenever (slot_ok s) f (Err refusal.BadSlot)) (Err refusal.BadRecord) ≡ Err r
  unfolding asked_on
  asked_refused r f e = two_refused (sound_words ws) (slot_ok s) refusal.BadSlot refusal.BadRecord r f e

  pub unsound_card : sound_words ws ≡ false → card_on ws s ≡ Err refusal.BadRecord
  unfolding card_on
  unsound_card e = given_off (sound_words ws) (Err refusal.BadRecord) _ e

  module _ (e : sound_words ws ≡ true) where
    pub slotless_card : slot_ok s ≡ false → card_on ws s ≡ Err refusal.BadSlot
    unfolding card_on
    slotless_card q =
        given_on (sound_words ws) (Err refusal.BadRecord) _ e ∙ given_off (slot_ok s) (Err refusal.BadSlot) _ q

    module _ (q : slot_ok s ≡ true) where
      pub card_there : card_on ws s ≡ Ok (row_at (ledger_of ws) s).card
      unfolding card_on
      card_there =
          given_on (sound_words ws) (Err refusal.BadRecord) _ e ∙ given_on (slot_ok s) (Err refusal.BadSlot) _ q

      -- The record is long enough for the slot's row.
      pub card_placed : InSlot ws s
      card_placed = record { long = sound_long ws e; slot = omega (arith, (slot_range s q).1) }

      -- "At every moment it equals what a recount of the stored votes gives": so does the answer.
      pub card_recounted : card_on ws s ≡ Ok (recount (ledger_of ws) s)
      card_recounted = card_there ∙ ap Ok (sound_cards ws e s (slot_range s q).0 (slot_range s q).1)
