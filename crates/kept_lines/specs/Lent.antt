-- What is answered about a slot's kept certificates, and the lent list afterwards.
use Rattle.std.specs.Prelude.{List, [], ◌∷◌, ◌++◌, ℕ, ◌+◌, ◌≤◌, length, Err}
use Rattle.rulebook.specs.declared.Accepted.{Accepted}
use Rattle.rulebook.specs.declared.Refusal.TheVariants as refusal
use Rattle.rulebook.specs.Tools.{whenever}
use Rattle.rulebook.specs.Weights.{slot_ok}
use Rattle.rulebook.specs.PaperNumbers.{number_in}
use Rattle.rulebook.specs.Ledger.{most_certificates}
use Rattle.record.specs.Layout.{ledger_of}
use Rattle.soundness.specs.Sound.{sound_words}
use Rattle.differences.specs.Rows as rows
use Rattle.inquest_lines.specs.declared.ListRefusal.TheVariants as why
use Rattle.inquest_lines.specs.Lent.{put_in}
pub use Rattle.inquest_lines.specs.Lent.{Told as Listing, refused_by, ToldIn}
use Rattle.kept_lines.specs.Told.{certificates_told, Telling}

-- A line's five words, those of an accepted check in a ring of so many nodes: kind, slot, block, signer count, weight.
abbrev pub spell_told : ℕ → Accepted → List ℕ
spell_told nodes a = number_in nodes a.kind ∷ a.slot.0 ∷ a.block ∷ a.signers ∷ a.weight.0 ∷ []

unfoldable pub spell_all : ℕ → List Accepted → List ℕ
spell_all nodes [] = []
spell_all nodes (x ∷ xs) = spell_told nodes x ++ spell_all nodes xs

-- A list that is too small for all lines is 9, with the number of lines needed: a list of so many words, five a line.
unfoldable pub listed_in : ℕ → ℕ → List Accepted → Listing
listed_in room nodes xs = put_in room (length xs) (spell_all nodes xs)

-- 17, then 3, then the slot's kept certificates, or 9 with how many there are.
unfoldable pub certificates_on : List ℕ → ℕ → ℕ → Listing
certificates_on ws s room =
    whenever (sound_words ws)
    (λ _. whenever (slot_ok s) (λ _. listed_in room (ledger_of ws).count (certificates_told (ledger_of ws) s)) (refused_by (Err (why.Refused refusal.BadSlot))))
    (refused_by (Err (why.Refused refusal.BadRecord)))

-- ---- the parts

-- Lines put into the list behind the first `at`, as far as it reaches, every other word as it was; and how many there are then.
abbrev pub Laid : ℕ → List ℕ → ℕ → List Accepted → List ℕ → ℕ → Type 0
Laid nodes = rows.Laid (spell_all nodes)

-- A slot has no more lines than places.
abbrev pub most_lines : ℕ
most_lines = most_certificates

-- One of a slot's places for certificates, and room to count its line behind the first `at`.
pub record AtPlace (ws : List ℕ) (s n at : ℕ) : Type 0 where
  pub telling : Telling ws s n
  pub room : at + 1 ≤ most_lines
