-- What is answered about two lent records, and the lent list afterwards.
use Rattle.std.specs.Prelude.{◌≡◌, false, not, List, [], ℕ, ◌+◌, ◌≤◌, ◌<◌, length, ⊤, Result, Ok, Err}
use Rattle.rulebook.specs.declared.Refusal.TheVariants as refusal
use Rattle.rulebook.specs.Tools.{whenever}
use Rattle.rulebook.specs.Ledger.{Ledger, places, is_watcher}
use Rattle.record.specs.Layout.{ledger_of, InSlot, InKept}
use Rattle.soundness.specs.Sound.{sound_words}
use Rattle.difference_lines.specs.declared.Side.TheVariants as side
use Rattle.difference_lines.specs.Lines.{same_tables}
use Rattle.differences.specs.Lent.{Alike}
use Rattle.inquest.specs.declared.Line.{Line}
use Rattle.inquest.specs.Lists.{lacking}
use Rattle.inquest_lines.specs.declared.ListRefusal.{ListRefusal}
use Rattle.inquest_lines.specs.declared.ListRefusal.TheVariants as why
use Rattle.inquest_lines.specs.Lent.{Told, refused_by, listed_in, ToldIn, most_lines}

-- The votes that the first ledger counts in the name of the second's firm and the second lacks. A watcher has no firm, and lacks nothing.
unfoldable pub lacking_of : Ledger → Ledger → List Line
lacking_of l r = whenever (not (is_watcher r)) (λ _. lacking l r) []

-- What is told of two records: 17 with the side, the first where both are bad; then 1 where the two stake tables differ: the firms'
-- numbers would not be the same firms'. Else what is told of both together.
abbrev pub of_two : List ℕ → List ℕ → (Unit {0} → Told) → Told
of_two one two told =
    whenever (sound_words one)
    (λ _. whenever (sound_words two)
    (λ _. whenever (same_tables (ledger_of one) (ledger_of two)) told (refused_by (Err (why.Refused refusal.BadSizes))))
    (refused_by (Err (why.BadRecord side.Second))))
    (refused_by (Err (why.BadRecord side.First)))

-- The refusals alone.
unfoldable pub comparable_on : List ℕ → List ℕ → Result ⊤ ListRefusal
comparable_on one two =
    whenever (sound_words one)
    (λ _. whenever (sound_words two)
    (λ _. whenever (same_tables (ledger_of one) (ledger_of two)) (λ _. Ok tt) (Err (why.Refused refusal.BadSizes)))
    (Err (why.BadRecord side.Second)))
    (Err (why.BadRecord side.First))

-- The lines, or 9 with how many there are.
unfoldable pub vouched_on : List ℕ → List ℕ → ℕ → Told
vouched_on one two room = of_two one two (λ _. listed_in room (lacking_of (ledger_of one) (ledger_of two)))

-- What is answered, and all words of the list afterwards.
abbrev pub VouchedOf : List ℕ → List ℕ → List ℕ → Result ℕ ListRefusal → List ℕ → Type 0
VouchedOf one two list r left = ToldIn list (vouched_on one two (length list)) r left

-- ---- the parts

-- A place of slot s for certificates, and room to count its lines behind the first `at`.
pub record AtPlace (ws : List ℕ) (s n at : ℕ) : Type 0 where
  pub place : InKept ws s n
  pub room : at + 2 ≤ most_lines

-- Likewise all places of a slot.
pub record InPlaces (ws : List ℕ) (s at : ℕ) : Type 0 where
  pub slot : InSlot ws s
  pub room : at + 26 ≤ most_lines

-- Two records, in a slot of both, where the second's own number has a cell in the first; and room to count the slot's lines.
pub record Comparing (one two : List ℕ) (s at : ℕ) : Type 0 where
  pub slot : InSlot one s
  pub there : InSlot two s
  pub node : (ledger_of two).own < places (ledger_of one)
  pub room : at + 33 ≤ most_lines

-- Two sound records of one stake table, the second a firm's.
pub record Firms (one two : List ℕ) : Type 0 where
  pub alike : Alike one two
  pub firm : is_watcher (ledger_of two) ≡ false
