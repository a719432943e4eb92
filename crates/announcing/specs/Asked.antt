-- Whether a block may be announced now: what is answered, and its number and value on the panel.
use Rattle.std.specs.Prelude.{List, [], ◌∷◌, ℕ, Bool, ⊤, Result, Ok, Err}
use Rattle.rulebook.specs.declared.Block.{Block}
use Rattle.rulebook.specs.declared.Refusal.TheVariants as refusal
use Rattle.rulebook.specs.Tools.{whenever, part}
use Rattle.rulebook.specs.Ledger.{Ledger}
use Rattle.rulebook.specs.Inputs.{block_verdict}
use Rattle.rulebook.specs.PaperNumbers.{Panel, panel_of}
use Rattle.record.specs.Layout.{ledger_of}
use Rattle.soundness.specs.Sound.{sound_words}
use Rattle.mail.specs.Policy.{may_announce}
use Rattle.rulebook.specs.declared.Refusal.{Refusal}

-- A block by its numbers, as a host tells it: its own, its parent's slot, its parent's.
abbrev pub block_of : ℕ → ℕ → ℕ → Block
block_of b p x = record { number = b; parentslot = record { 0 = p }; parent = x }

-- What the block would be refused with; where it would be taken, whether the policy lets it be announced now.
unfoldable pub judged : Ledger → ℕ → Block → Result ⊤ Refusal → Result Bool Refusal
judged l s b (Ok tt) = Ok (may_announce l s b.number)
judged l s b (Err r) = Err r

-- 17 for words that are no record; then of the ledger that they mean.
unfoldable pub announced_on : List ℕ → ℕ → Block → Result Bool Refusal
announced_on ws s b =
    whenever (sound_words ws) (λ _. judged (ledger_of ws) s b (block_verdict (ledger_of ws) s b)) (Err refusal.BadRecord)

-- The number, and beside it 1 for now; 0 for not yet, and beside a refusal.
unfoldable pub announce_panel : Result Bool Refusal → Panel
announce_panel a = panel_of (0 ∷ []) (λ now. part now 1 ∷ []) a
