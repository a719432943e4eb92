-- A slot asked of a record, and the question for its tally card: what is answered, and its number and values on the panel.
use Rattle.std.specs.Prelude.{List, [], ◌∷◌, ℕ, ⊤, Result, Ok, Err}
use Rattle.rulebook.specs.declared.Tally.{Tally}
use Rattle.rulebook.specs.declared.Refusal.{Refusal}
use Rattle.rulebook.specs.declared.Refusal.TheVariants as refusal
use Rattle.rulebook.specs.Tools.{whenever}
use Rattle.rulebook.specs.Weights.{slot_ok}
use Rattle.rulebook.specs.Ledger.{row_at}
use Rattle.rulebook.specs.PaperNumbers.{Panel, refusal_number, panel_of}
use Rattle.record.specs.Layout.{ledger_of}
use Rattle.soundness.specs.Sound.{sound_words}

-- 17, then 3.
unfoldable pub asked_on : List ℕ → ℕ → Result ⊤ Refusal
asked_on ws s =
    whenever (sound_words ws) (λ _. whenever (slot_ok s) (λ _. Ok tt) (Err refusal.BadSlot)) (Err refusal.BadRecord)

-- 17, then 3, then the card that the slot's row keeps.
unfoldable pub card_on : List ℕ → ℕ → Result Tally Refusal
card_on ws s =
    whenever (sound_words ws)
    (λ _. whenever (slot_ok s) (λ _. Ok (row_at (ledger_of ws) s).card) (Err refusal.BadSlot))
    (Err refusal.BadRecord)

-- "skip weight, final weight, skip-certificate weight and the leading notar block with its weight".
abbrev pub card_values : Tally → List ℕ
card_values t = t.skip.0 ∷ t.finals.0 ∷ t.skipcert.0 ∷ t.leader ∷ t.weight.0 ∷ []

-- The number on the panel and the card's five words beside it, zeros beside a refusal.
unfoldable pub card_panel : Result Tally Refusal → Panel
card_panel a = panel_of (0 ∷ 0 ∷ 0 ∷ 0 ∷ 0 ∷ []) card_values a
