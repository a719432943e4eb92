-- "At every moment it equals what a recount of the stored votes gives, in fresh and in refused cases too": over seen lives, of nodes and of watchers.
use Rattle.std.specs.Prelude.{◌≡◌, true, false, List, [], ◌∷◌, ℕ}
use Rattle.rulebook.specs.Weights.{slot_ok}
use Rattle.rulebook.specs.Ledger.{Ledger}
use Rattle.rulebook.specs.Cards as book
use Rattle.rulebook.specs.Cards.{recount}
use Rattle.cards.specs.Asked.{card_on, card_values}
use Rattle.answers.specs.Face.{CardRead}
use Rattle.seen.specs.Seen.{Seen, ledger_in, Alive}

-- Each slot's card is the recount of the votes that the words store.
abbrev pub CardsAgree : Type 0
CardsAgree = (stakes : List ℕ) (genesis : ℕ) (v : Seen) → Alive stakes genesis v → book.CardsAgree (ledger_in v)

-- The five numbers are those of a recount of the slot's stored votes; a slot that is none gets 3 and zeros.
pub record RecountTold (l : Ledger) (s number : ℕ) (values : List ℕ) : Type 0 where
  pub there : slot_ok s ≡ true → (number ≡ 0) × (values ≡ card_values (recount l s))
  pub slotless : slot_ok s ≡ false → (number ≡ 3) × (values ≡ 0 ∷ 0 ∷ 0 ∷ 0 ∷ 0 ∷ [])

-- And what is answered of a card is what a recount of the stored votes gives.
abbrev pub CardTold : Type 0
CardTold =
    (stakes : List ℕ) (genesis : ℕ) (v : Seen) → Alive stakes genesis v → (s number : ℕ) (values : List ℕ) → CardRead (card_on v.words s) number values
    → RecountTold (ledger_in v) s number values
