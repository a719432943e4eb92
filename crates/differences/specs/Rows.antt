-- Lines of five words in a lent list.
use Rattle.std.specs.Prelude.{◌≡◌, List, ℕ, ◌+◌, ◌*◌, ◌≤◌, ◌<◌, length, Result, Ok, Err}
use Rattle.std.specs.Fn.{Shared}
use Rattle.std.proofs.lemmas.List.Edits.{sets}
use denote.Ref.{MutBor}
use Rattle.rulebook.specs.Writers.{over}

-- A line's words put behind the first `at` lines, as far as the list reaches, every other word as it was; and how many lines there are then.
pub record Row (list : List ℕ) (at : ℕ) (row left : List ℕ) (next : ℕ) : Type 0 where
  pub words : left ≡ sets list (5 * at) row
  pub many : next ≡ at + 1

-- Likewise lines, each spelled with five words.
pub record Laid {A : Type 0} (spell : List A → List ℕ) (list : List ℕ) (at : ℕ) (xs : List A) (left : List ℕ) (next : ℕ) : Type 0 where
  pub words : left ≡ sets list (5 * at) (spell xs)
  pub many : next ≡ at + length xs

-- What is given a list and answers a number.
abbrev pub OnList : Type 0 → Type 1
OnList F = Shared F (MutBor (List ℕ) × Unit {0}) (ℕ × (MutBor (List ℕ) × Unit {0}))

-- It puts these words from the front of whatever list it is given, as far as that reaches, and answers that they are n lines.
abbrev pub Puts : {F : Type 0} → OnList F → F → ℕ → List ℕ → Type 0
Puts g put n ws = (x : MutBor (List ℕ)) (m : ℕ) (y : MutBor (List ℕ)) → g.post put (x, tt) (m, (y, tt)) → (m ≡ n) × (y.now ≡ sets x.now 0 ws)

-- The n lines from the list's front and how many they are; or, where the list is too small for all of them, that number and the list as found.
pub record Counted (n : ℕ) (ws list : List ℕ) (r : Result ℕ ℕ) (left : List ℕ) : Type 0 where
  pub roomy : 5 * n ≤ length list → (r ≡ Ok n) × (left ≡ over ws list)
  pub cramped : length list < 5 * n → (r ≡ Err n) × (left ≡ list)

-- So of the lines that it puts, whichever they are.
abbrev pub ListsAll : {F : Type 0} → OnList F → F → List ℕ → Result ℕ ℕ → List ℕ → Type 0
ListsAll g put list r left = (n : ℕ) (ws : List ℕ) → length ws ≡ 5 * n → Puts g put n ws → Counted n ws list r left

-- Two ledgers have no more lines than this: 15 for each node in each slot.
abbrev pub most_lines : ℕ
most_lines = 491520
