-- Computed cases of the question for a card: which of its five words is which, which slot's it is, 17 before 3, zeros beside a refusal.
use Rattle.std.specs.Prelude.{◌≡◌, true, false, List, [], ◌∷◌, ℕ, T, Result, Ok, Err}
use Rattle.rulebook.specs.declared.Refusal.TheVariants as refusal
use Rattle.rulebook.specs.Ledger.{Ledger, card_of, fresh}
use Rattle.rulebook.specs.Scripts.{vote, stored, equals}
use Rattle.rulebook.specs.Computes.{rules}
use Rattle.record.specs.Layout.{ledger_of}
use Rattle.soundness.specs.Sound.{sound_words}
use Rattle.cards.specs.Asked.{card_on, card_panel}
use Rattle.rulebook.specs.declared.Refusal.{Refusal}
use Rattle.rulebook.specs.declared.Tally.{Tally}

-- An answer's number and the values beside it, and what each slot of a list is answered with.
abbrev shown : Result Tally Refusal → List ℕ
shown a = let p = card_panel a in p.number ∷ p.values

abbrev asked : List ℕ → List ℕ → List (List ℕ)
asked ws [] = []
asked ws (s ∷ ss) = shown (card_on ws s) ∷ asked ws ss

-- Five nodes of stakes 1, 2, 2, 3 and 4. In slot 1 there is something on every line of the card, in the last slot a skip alone.
abbrev voted : Ledger
voted = stored (fresh (1 ∷ 2 ∷ 2 ∷ 3 ∷ 4 ∷ []) 0 1) (vote 1 1 1 9 ∷ vote 1 2 1 7 ∷ vote 3 3 1 0 ∷ vote 4 2 1 0 ∷ vote 5 4 1 0 ∷ vote 3 4 16 0 ∷ [])

-- Of words that hold it: skip, final, skip certificate, leading block and its weight; 3 for a slot that is none.
card_told : (ws : List ℕ) → sound_words ws ≡ true → ledger_of ws ≡ voted → T (equals (asked ws (1 ∷ 2 ∷ 16 ∷ 0 ∷ 17 ∷ []))
    ((0 ∷ 3 ∷ 4 ∷ 5 ∷ 7 ∷ 2 ∷ []) ∷ (0 ∷ 0 ∷ 0 ∷ 0 ∷ 0 ∷ 0 ∷ []) ∷ (0 ∷ 4 ∷ 0 ∷ 4 ∷ 0 ∷ 0 ∷ []) ∷ (3 ∷ 0 ∷ 0 ∷ 0 ∷ 0 ∷ 0 ∷ []) ∷ (3 ∷ 0 ∷ 0 ∷ 0 ∷ 0 ∷ 0 ∷ []) ∷ []))
unfolding rules card_on card_panel
card_told ws sound holds = rw (sound, holds) tt

-- Of words that are no record: 17, whatever the slot.
card_of_none : (ws : List ℕ) → sound_words ws ≡ false → T (equals (asked ws (1 ∷ 0 ∷ [])) ((17 ∷ 0 ∷ 0 ∷ 0 ∷ 0 ∷ 0 ∷ []) ∷ (17 ∷ 0 ∷ 0 ∷ 0 ∷ 0 ∷ 0 ∷ []) ∷ []))
unfolding rules card_on card_panel
card_of_none ws unsound = rw unsound tt

-- The panel of a card by itself, and of both refusals.
card_panels : T (equals (shown (Ok (card_of 11 12 13 14 15)) ∷ shown (Err refusal.BadRecord) ∷ shown (Err refusal.BadSlot) ∷ []) ((0 ∷ 11 ∷ 12 ∷ 13 ∷ 14 ∷ 15 ∷ []) ∷ (17 ∷ 0 ∷ 0 ∷ 0 ∷ 0 ∷ 0 ∷ []) ∷ (3 ∷ 0 ∷ 0 ∷ 0 ∷ 0 ∷ 0 ∷ []) ∷ []))
unfolding rules card_panel
card_panels = tt
