-- What is answered about one lent record, and the lent list afterwards.
use Rattle.std.specs.Prelude.{◌≡◌, Bool, true, List, ℕ, ◌+◌, ◌≤◌, length, Result, Err}
use Rattle.std.specs.Fn.{Once}
use Rattle.rulebook.specs.declared.Refusal.TheVariants as refusal
use Rattle.rulebook.specs.declared.Slot.{Slot}
use Rattle.rulebook.specs.declared.VoteKind.{VoteKind}
use Rattle.rulebook.specs.Tools.{whenever}
use Rattle.record.specs.Layout.{ledger_of}
use Rattle.candidates.specs.Judging.{Judging}
use Rattle.soundness.specs.Sound.{sound_words}
use Rattle.inquest.specs.declared.Line.{Line}
use Rattle.inquest.specs.Stands.{none_or}
use Rattle.inquest.specs.Lists.{unless, fallen}
use Rattle.inquest_lines.specs.declared.ListRefusal.{ListRefusal}
use Rattle.inquest_lines.specs.declared.ListRefusal.TheVariants as why
use Rattle.inquest_lines.specs.Lent.{Told, refused_by, listed_in, ToldIn, Laid, most_lines}

-- 17 for words that are no record; else the own votes that do not stand, or 9 with the number of lines.
unfoldable pub stands_on : List ℕ → ℕ → Told
stands_on ws room =
    whenever (sound_words ws) (λ _. listed_in room (fallen (ledger_of ws))) (refused_by (Err (why.Refused refusal.BadRecord)))

-- What is answered, and all words of the list afterwards.
abbrev pub StandsOf : List ℕ → List ℕ → Result ℕ ListRefusal → List ℕ → Type 0
StandsOf ws list r left = ToldIn list (stands_on ws (length list)) r left

-- ---- the parts

-- The line of a firm's vote, with the rule that casts it.
abbrev pub line_on : ℕ → Slot → VoteKind → ℕ → ℕ → Line
line_on n s k b rule = record { slot = s; node = record { 0 = n }; kind = k; block = b; source = rule }

-- Of a vote's word, where 0 is no vote, and its test: its line where there is one and the test does not pass.
abbrev pub OwnLine : {F : Type 0} → Once F (Unit {0}) Bool → F → ℕ → Line → List ℕ → ℕ → List ℕ → ℕ → Type 0
OwnLine g stands word x list at left next = (t : Unit {0} → Bool) → ((r : Bool) → g.post stands tt r → r ≡ t tt) → Laid list at (unless (none_or word t) x) left next

-- A slot whose own votes can be judged, and room to count the lines of the six that may fall behind the first `at`.
pub record PuttingSlot (ws : List ℕ) (s at : ℕ) : Type 0 where
  pub judging : Judging ws s
  pub room : at + 6 ≤ most_lines

-- Words that 17 lets pass.
abbrev pub Sounding : List ℕ → Type 0
Sounding ws = sound_words ws ≡ true
